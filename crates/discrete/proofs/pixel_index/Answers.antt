-- `discrete::pixel_index` what the search leaves.
use mathlib.Core.Path.{◌≡◌, sym, ◌∙◌}
use mathlib.Core.Bool.{true}
use Prim.Native.Nat.{◌≤◌}
use native.Mathlib.Omega.{arith}
use lib.IntN.{ℤ, nat_abs, ◌-ℤ◌}
use mir.Facts.{to_z-of_z}
use mir.Syntax.{w32}
use mir.Val.{SFits, to_z, of_z}
use Rattle.ranged1d.specs.Admitted.{reading_admitted}
use Rattle.ranged1d.proofs.Whole.{fits32}
use Rattle.discrete.proofs.Within.{distances}
use Rattle.discrete.specs.Index.{pixel_index}
use Rattle.discrete.proofs.pixel_index.Lts as lts
use Rattle.discrete.proofs.pixel_index.Reads as reads
use Rattle.discrete.proofs.pixel_index.Tie as tie
use Rattle.discrete.proofs.pixel_index.Goals as goal

abbrev at-After-admits : Type 0
at-After-admits = lts.After-admits tie.the-claims reads.Pre reads.Post tie.handed_clauses

abbrev at-After-struct_told2 : Type 0
at-After-struct_told2 = lts.After-struct_told2 tie.the-claims reads.Pre reads.Post tie.handed_clauses

abbrev at-Else1 : Type 0
at-Else1 = lts.Else1 tie.the-claims reads.Pre reads.Post tie.handed_clauses

told : (c : at-After-admits) → c.admits.result ≡ reading_admitted c.args.x c.args.limit
told c = rw (to_z-of_z c.ranges.x) at c.admits.ensures

admitted : (c : at-Else1) → let s = c.args in reading_admitted s.x s.limit ≡ true
admitted c = sym (told c.before) ∙ c.if-not-admits.false

pub returns-then-not-admits : goal.returns-then-not-admits
unfolding pixel_index
returns-then-not-admits c = rw (sym (told c.before) ∙ c.if-not-admits.true)

module _ (c : at-After-struct_told2) where
  x : ℤ
  x = c.args.x

  p : ℤ
  p = c.args.limit.0

  q : ℤ
  q = c.args.limit.1

  x_is : to_z w32 (of_z w32 x) ≡ x
  unfolding x
  x_is = to_z-of_z c.ranges.x

  p_is : to_z w32 (of_z w32 p) ≡ p
  unfolding p
  p_is = to_z-of_z {w = w32} {z = c.args.limit.0} (record { sfits = c.before.struct_told-1.given.0.1 })

  q_is : to_z w32 (of_z w32 q) ≡ q
  unfolding q
  q_is = to_z-of_z {w = w32} {z = c.args.limit.1} (record { sfits = c.before.struct_told-1.given.1.0.1 })

  far : (nat_abs (x -ℤ p) ≤ 2000000) × (nat_abs (q -ℤ p) ≤ 2000000)
  unfolding x p q
  far = let s = c.args in distances s.x s.limit (admitted c.before.before)

  d-fits : SFits w32 (x -ℤ p)
  d-fits = fits32 _ (omega (arith, far.0))

  w_fits : SFits w32 (q -ℤ p)
  w_fits = fits32 _ (omega (arith, far.1))

pub returns : goal.returns
unfolding x p q pixel_index
returns c =
    let s = c.before in
    rw (admitted s.before.before)
    (rw (x_is s, p_is s, q_is s, to_z-of_z (d-fits s), to_z-of_z (w_fits s)) at c.index_within.ensures)
