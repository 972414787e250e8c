-- 02 (e), as specs/Exact states it: an exact place says what the place of `map` is, and the mirrored needle has the same. Assumes nothing.
use mathlib.Core.Path.{◌≡◌, sym, ap, ◌∙◌}
use mathlib.Core.Logic.{◌⊎◌, inl, inr}
use mathlib.Core.Bool.{true, false, true≢false}
use Prim.Native.Nat.{ℕ, ◌+◌, ◌*◌, ◌/◌, ◌%◌, ◌≤◌}
use native.Mathlib.Omega.{arith}
use lib.IntN.{ℤ, neg_ℤ, nat_abs, ◌-ℤ◌}
use lib.Ieee.{binary64, of_int}
use borrow.Author.Tests.{not-false, leb-true}
use Rattle.ranged1d.specs.Answer.{given}
use Rattle.ranged1d.specs.Admitted.{whole_admitted, ends_admitted, limit_admitted}
use Rattle.ranged1d.specs.Numbers.{same}
use Rattle.ranged1d.specs.declared.Limit.{Limit}
use Rattle.ranged1d.proofs.Answers.{given_is}
use Rattle.ranged1d.proofs.Bools.{both_true, both_false}
use Rattle.ranged1d.proofs.Lowest.{given_tests}
use Rattle.ranged1d.proofs.Whole.{both_near, neg-far, admitted-neg, same_yes, some_size, no_difference}
use Rattle.rounding.proofs.Units.{int_holds}
use Rattle.real.specs.Reading.{outside}
use Rattle.real.specs.Mirror.{mirrored}
use Rattle.real.specs.Place.{whole_place}
use Rattle.real.specs.Exact.{pixels, distance, quotient, remainder, exact_reasons, whole_exact, away, Relied, Exact}
use Rattle.real.proofs.Readings.{limit-neg, outside-neg, same-neg, length-neg}
use Rattle.real.proofs.Placed.{whole_answered}
use Rattle.real.proofs.Error.{Counts, count_close, between-share, spot-counted}

-- what is asked of k, from what is known of it
as_asked : (N w D k n r : ℕ) → N * w / D ≡ n → N * w % D ≡ r → Counts N w D k → (k ≡ n) ⊎ ((k ≡ n + 1) × (998 * D ≤ 1000 * r))
as_asked N w D k n r q m (inl e) = inl (e ∙ q)
as_asked N w D k n r q m (inr e) = inr (omega (arith, e.0), omega (arith, e.1))

sharper : (N w D k n r : ℕ) → N * w / D ≡ n → N * w % D ≡ r → Counts N w D k → k ≡ n + 1 → 998_999_999 * D ≤ 1_000_000_000 * r
sharper N w D k n r q m (inl e) f = absurd (omega arith)
sharper N w D k n r q m (inr e) f = omega (arith, e.1)

-- the place of a needle on the axis: so many pixels away from p
module _ (a b v : ℤ) (limit : Limit) (ends : ends_admitted a b ≡ true) (needle : whole_admitted v ≡ true) (film : limit_admitted limit ≡ true) (differ : a ≡ b → ⊥) (inside : outside v a b ≡ false) where
  counted : (k : ℕ) × (whole_place a b v limit ≡ given (away limit k)) × Counts (pixels limit) (distance a v) (distance a b) k
  counted =
      let (na, nb) = both_near 1_000_000_000 a b ends in
      let nv = leb-true (nat_abs v) 1_000_000_000 needle in
      let (k, at, counts) = spot-counted (of_int binary64 a) (of_int binary64 b) (of_int binary64 v) a b v limit
      (int_holds binary64 a (omega arith)) (int_holds binary64 b (omega arith)) (int_holds binary64 v (omega arith)) na nb differ inside film in
      (k, whole_answered a b v limit ends needle film at, counts)

  -- and no more than the film has
  pub on_film : (k : ℕ) × (whole_place a b v limit ≡ given (away limit k)) × (k ≤ pixels limit)
  on_film =
      let (k, at, counts) = counted in
      (k, at, (count_close (pixels limit) (distance a v) (distance a b) k (some_size (b -ℤ a) (λ z. differ (no_difference a b z))) (between-share a b v inside).1 counts).0)

relied : (limit : Limit) (a b v : ℤ) {n r : ℕ} → whole_exact a b v limit ≡ given (n, r) → Relied a b v limit n r
unfolding whole_exact
relied limit a b v e =
    let (none, is) = given_tests (exact_reasons a b v limit) (given (quotient a b v limit, remainder a b v limit)) e in
    let admitted = both_true (ends_admitted a b) (whole_admitted v) (not-false _ none.0) in
    let off = both_false (same a b) (outside v a b) none.1.1.0 in
    let (k, at, counts) = counted a b v limit admitted.0 admitted.1 (not-false (limit_admitted limit) none.1.0) (λ (s : a ≡ b). true≢false (sym (same_yes a b s) ∙ off.0)) off.1 in
    let pair = given_is is in
    record {
      k = k;
      place = at;
      near = as_asked (pixels limit) (distance a v) (distance a b) k _ _ (ap (λ x. x.0) pair) (ap (λ x. x.1) pair) counts;
      nearer = sharper (pixels limit) (distance a v) (distance a b) k _ _ (ap (λ x. x.0) pair) (ap (λ x. x.1) pair) counts;
    }

distance-neg : (a v : ℤ) → distance (neg_ℤ a) (neg_ℤ v) ≡ distance a v
distance-neg a v = ap nat_abs (length-neg a v) ∙ neg-far (v -ℤ a)

mirror : (limit : Limit) (a b v : ℤ) → whole_exact (neg_ℤ a) (neg_ℤ b) (neg_ℤ v) (mirrored limit) ≡ whole_exact a b v limit
unfolding whole_exact
mirror limit a b v =
    rw (admitted-neg a, admitted-neg b, admitted-neg v, limit-neg limit, same-neg a b, outside-neg v a b, distance-neg a v, distance-neg a b, distance-neg limit.0 limit.1)

pub exact : (limit : Limit) → Exact limit
exact limit = record { relied = relied limit; mirror = mirror limit }
