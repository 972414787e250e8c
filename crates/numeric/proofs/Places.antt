-- Places of whole axes: by the tests that lead to each answer, and that every mark has one. Assumes nothing.
use mathlib.Core.Path.{◌≡◌, refl, sym, ap, subst, ◌∙◌}
use mathlib.Core.Bool.{true, false, true≢false, ◌&&◌, ◌||◌, not-eq-not}
use Prim.Native.Nat.{ℕ, ◌≤◌, ◌<◌}
use lib.IntN.{ℤ, pos, nat_abs, ◌-ℤ◌}
use lib.Signed.{quot_z}
use lib.Ieee.{binary64, div, eq, of_int}
use native.Mathlib.Omega.{arith}
use borrow.Author.Tests.{le-leb}
use Rattle.ranged1d.specs.Answer.{given, refused}
use Rattle.ranged1d.specs.Admitted.{whole_admitted, limit_admitted}
use Rattle.ranged1d.specs.declared.Limit.{Limit}
use Rattle.std.specs.Prelude.{Some, None}
use Rattle.ranged1d.proofs.Bools.{both_false}
use Rattle.ranged1d.proofs.Whole.{fits32, length-near, same_yes, some_size, no_difference}
use Rattle.real.specs.Exact.{whole_exact}
use Rattle.real.proofs.Error.{between-share}
use Rattle.ranged1d.specs.Numbers.{same}
use Rattle.real.specs.Reading.{outside}
use Rattle.real.specs.Place.{along, spot, whole_spot, whole_place, number}
use Rattle.real.proofs.Exact.{int_self, same_int, whole-share}
use Rattle.real.proofs.Placed.{Placed, spot-near, whole-placed}
use Rattle.real.proofs.Wraps.{wide}
use mir.Syntax.{w32, w64}
use mir.Val.{SFits, to_z, of_z}
use mir.Facts.{to_z-of_z}
use Rattle.numeric.specs.declared.Choice.{Choice}
use Rattle.numeric.specs.declared.KeyPoints.{KeyPoints}
use Rattle.numeric.specs.Calls.{plan_by, element}
use Rattle.numeric.specs.Whole.{ends_admitted}
use Rattle.numeric.proofs.Plans.{planned_good_by}
use Rattle.numeric.proofs.Near.{mark-near}

-- ---- what `map` answers, case by case
module _ (a b v : ℤ) (limit : Limit) where
  pub no_whole : (ends_admitted a b && whole_admitted v) ≡ false → whole_place a b v limit ≡ refused 1
  unfolding whole_place
  no_whole e = rw e refl

  module _ (e : (ends_admitted a b && whole_admitted v) ≡ true) where
    pub no_limit : limit_admitted limit ≡ false → whole_place a b v limit ≡ refused 2
    unfolding whole_place
    no_limit h = rw (e, h) refl

    module _ (h : limit_admitted limit ≡ true) where
      pub too_far : whole_spot a b v limit ≡ None → whole_place a b v limit ≡ refused 5
      unfolding whole_place
      too_far s = rw (e, h, s) refl

      module _ (z : ℤ) (s : whole_spot a b v limit ≡ Some z) where
        near : nat_abs z ≤ 1_001_000_000
        near = subst (λ w. nat_abs (number w) ≤ 1_001_000_000) s (spot-near (of_int binary64 a) (of_int binary64 b) (of_int binary64 v) limit h)

        z32 : SFits w32 z
        z32 = fits32 z (omega (arith, near))

        pub whole_fits : SFits w32 (to_z w64 (of_z w64 z))
        whole_fits = rw (wide z z32) z32

        pub whole_given : whole_place a b v limit ≡ given (to_z w32 (of_z w32 (to_z w64 (of_z w64 z))))
        unfolding whole_place
        whole_given = rw (wide z z32, to_z-of_z z32, e, h, s) refl

pub ruleset places = (no_whole, no_limit, too_far, whole_fits, whole_given)

-- ---- the exact place: refused where an end or v is not admitted
pub exact_off : (a b v : ℤ) (limit : Limit) → (ends_admitted a b && whole_admitted v) ≡ false → whole_exact a b v limit ≡ refused 1
unfolding whole_exact
exact_off a b v limit e = rw e refl

-- the sizes that it is made of, where the axis has length and v lies on it
pub exact_sizes : (a b v : ℤ) (limit : Limit) → limit_admitted limit ≡ true → (same a b || outside v a b) ≡ false
    → (nat_abs (limit.1 -ℤ limit.0) ≤ 2000000) × (nat_abs (v -ℤ a) ≤ nat_abs (b -ℤ a)) × (0 < nat_abs (b -ℤ a))
exact_sizes a b v limit film h =
    let off = both_false (same a b) (outside v a b) h in
    (length-near limit film, (between-share a b v off.1).1, some_size (b -ℤ a) (λ z. true≢false (sym (same_yes a b (no_difference a b z)) ∙ off.0)))

-- ---- the rule's place: of ends that are equal, and by the whole differences of others
pub level-spot : (a b v : ℤ) (limit : Limit) → nat_abs a ≤ 1000000000 → a ≡ b → whole_spot a b v limit ≡ Some (quot_z (limit.1 -ℤ limit.0) (pos 2))
unfolding spot
level-spot a b v limit h e = rw (ap (λ (z : ℤ). eq (of_int binary64 a) (of_int binary64 z)) (sym e) ∙ int_self a (omega arith))

pub sloped_spot : (a b v : ℤ) (limit : Limit) → nat_abs a ≤ 1000000000 → nat_abs b ≤ 1000000000 → nat_abs v ≤ 1000000000 → (a ≡ b → ⊥)
    → whole_spot a b v limit ≡ along limit.0 limit.1 (limit.1 -ℤ limit.0) (div binary64 (of_int binary64 (v -ℤ a)) (of_int binary64 (b -ℤ a)))
unfolding spot
sloped_spot a b v limit ha hb hv n =
    rw ((not-eq-not {b = false}).0 (λ e. n (same_int a b (omega arith) (omega arith) e))) (ap (along limit.0 limit.1 (limit.1 -ℤ limit.0)) (whole-share a b v (omega arith) (omega arith) (omega arith)))

-- every mark that a plan of either choice streams has a place on every film: 5 does not arise
pub mark-placed : (c : Choice) (a b : ℤ) (m : ℕ) {p : KeyPoints} → plan_by c a b m ≡ given p → (limit : Limit) → limit_admitted limit ≡ true
    → (k : ℕ) → k < p.count → Placed (whole_place a b (element p.first p.step k) limit)
mark-placed c a b m {p} e limit h k l =
    let good = planned_good_by c a b m e in
    let near = mark-near c a b m e k l in
    whole-placed a b _ limit h (le-leb _ _ good.ends.0) (le-leb _ _ good.ends.1) (le-leb _ _ near.0) near.1
