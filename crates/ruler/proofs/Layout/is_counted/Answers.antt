-- `ruler::Layout::is_counted` what the search leaves: the ends and the limits of a layout are admitted.
use Rattle.std.proofs.Common.{◌≡◌, ◌≤◌, true, false, ℤ, ◌-ℤ◌, nat_abs, sym, ◌∙◌, arith, rules, to_z-of_z, w32, SFits}
use Rattle.ranged1d.specs.Admitted.{ends_admitted, limit_admitted}
use Rattle.ranged1d.proofs.Whole.{both_near, fits32}
use Rattle.real.specs.Reading.{outside}
use Rattle.ruler.proofs.Counted.{counted}
use Rattle.ruler.proofs.Drawn.{is_drawn}
use Rattle.ruler.proofs.Places.{ends, film}
use Rattle.ruler.proofs.Layout.is_counted.Goals as goal
use Rattle.ruler.proofs.Layout.is_counted.Goals.{Else-outside_limit-2}

-- where both tests were passed
module _ (c : Else-outside_limit-2) where
  abbrev a : ℤ
  a = c.args.self.drawing.draft.a

  abbrev b : ℤ
  b = c.args.self.drawing.draft.b

  abbrev p : ℤ
  p = c.args.self.drawing.draft.limit.0

  abbrev q : ℤ
  q = c.args.self.drawing.draft.limit.1

  ends_in : ends_admitted a b ≡ true
  ends_in = ends _ _ _ _ (is_drawn _ _ _ _ _ c.args.self.planned).has

  film_in : limit_admitted c.args.self.drawing.draft.limit ≡ true
  film_in = film _ _ _ _ (is_drawn _ _ _ _ _ c.args.self.planned).has

  ends_near : (nat_abs a ≤ 1_000_000_000) × (nat_abs b ≤ 1_000_000_000)
  ends_near = both_near 1_000_000_000 a b ends_in

  film_near : (nat_abs p ≤ 1_000_000) × (nat_abs q ≤ 1_000_000)
  film_near = both_near 1_000_000 p q film_in

  inside : outside c.args.v a b ≡ false
  inside =
      let fa : SFits w32 a = fits32 a (omega (arith, ends_near.0)) in
      let fb : SFits w32 b = fits32 b (omega (arith, ends_near.1)) in
      sym (rw (to_z-of_z c.ranges.v, to_z-of_z fa, to_z-of_z fb) at c.outside_limit.ensures) ∙ c.if-outside_limit.false

  shown : outside c.args.x p q ≡ false
  shown =
      let fp : SFits w32 p = fits32 p (omega (arith, film_near.0)) in
      let fq : SFits w32 q = fits32 q (omega (arith, film_near.1)) in
      sym (rw (to_z-of_z c.ranges.x, to_z-of_z fp, to_z-of_z fq) at c.outside_limit-else-outside_limit.ensures) ∙ c.if-outside_limit-2.false

pub returns : goal.returns
returns c =
    let s = c.before.before.before.before.before in
    let length_is : c.abs_diff.result ≡ nat_abs (q s -ℤ p s) = search rules in
    let way-is : c.abs_diff-2.result ≡ nat_abs (c.args.v -ℤ a s) = search rules in
    let pixels-are : c.abs_diff-3.result ≡ nat_abs (c.args.x -ℤ p s) = search rules in
    let ends-are : c.abs_diff-4.result ≡ nat_abs (b s -ℤ a s) = search rules in
    λ e.
    let told = rw (length_is, way-is, pixels-are, ends-are) at (c.is_multiple.ensures e) in
    counted (a s) (b s) c.args.v c.args.x c.args.self.drawing.draft.limit (ends_in s) (film_in s) (inside s) (shown s) told.0 told.1
