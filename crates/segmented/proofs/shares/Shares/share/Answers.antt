-- `segmented::shares::Shares::share` what the search leaves.
use Rattle.std.proofs.Common.{◌≡◌, ℕ, ◌≤◌, pos, ◌-ℤ◌, nat_abs, ap, ◌∙◌, arith, to_z-of_z, w32, SFits, to_z}
use mir.Facts.{to_z_pos}
use Rattle.ranged1d.proofs.Whole.{minus-far, fits32}
use Rattle.segmented.specs.Segments.{shared}
use Rattle.segmented.proofs.Margin.{shared_small, shared_below, shared-above}
use Rattle.segmented.proofs.shares.Shares.share.Goals as goal

module _ (c : goal.After-share_up-size) where
  abbrev k : ℕ
  k = c.share_up-size.result

  size_is : c.unsigned_abs.result ≡ nat_abs c.args.l
  size_is = rw (to_z-of_z c.ranges.l) at c.unsigned_abs.ensures.value

  told : pos k ≡ shared c.args.self.n (pos (nat_abs c.args.l))
  told = c.share_up-size.ensures ∙ ap (λ (z : ℕ). shared c.args.self.n (pos z)) size_is

  near : k ≤ 2000000
  near = omega (arith, ap nat_abs told, shared_small c.args.self.n c.args.self.some c.args.self.most (pos (nat_abs c.args.l)) c.requires)

  k_is : to_z w32 k ≡ pos k
  k_is = to_z_pos w32 {n = k} (omega (arith, near))

  turned-fits : SFits w32 (pos 0 -ℤ pos k)
  turned-fits = fits32 (pos 0 -ℤ pos k) (omega (arith, minus-far (pos 0) (pos k), near))

pub overflow_cast-size : goal.overflow_cast-size
overflow_cast-size c = omega (arith, near c)

pub overflow_sub-result : goal.overflow_sub-result
overflow_sub-result c = rw (k_is c.before) (turned-fits c.before)

pub returns-then-l-lt0 : goal.returns-then-l-lt0
returns-then-l-lt0 c = let at = c.before in rw (k_is at, to_z-of_z (turned-fits at)) (shared_below at.args.self.n at.args.l (told at) (rw (to_z-of_z at.ranges.l) at c.if-l-lt0.true))

pub returns-else-l-lt0 : goal.returns-else-l-lt0
returns-else-l-lt0 c = let at = c.before in rw (k_is at) (shared-above at.args.self.n at.args.l (told at) (rw (to_z-of_z at.ranges.l) at c.if-l-lt0.false))
