-- 02 (m) on a whole axis, as specs/NeedleBack states it. Assumes nothing.
use mathlib.Core.Path.{◌≡◌, refl, sym, ap, ◌∙◌, subst}
use mathlib.Core.Logic.{◌⊎◌, inl, inr}
use mathlib.Core.Bool.{Bool, true, false, cond, true≢false}
use Prim.Native.Nat.{ℕ, zero, suc, ◌+◌, ◌*◌, ◌/◌, ◌≤◌, ◌<◌}
use native.Mathlib.Nat.{zero-mul, zero-div, div-mul-le_self, lt-div-mul-add, mul-le-mul_right, le_of_mul-le-mul_right}
use native.Mathlib.Omega.{arith}
use lib.IntN.{ℤ, pos, negsuc, nat_abs, ◌+ℤ◌, ◌-ℤ◌, +ℤ-neg_ℤ_cancel}
use lib.Signed.{lt_z, le_z}
use lib.Ieee.{binary64, of_int}
use borrow.Author.Tests.{le-leb, le-ltb}
use Rattle.ranged1d.specs.Answer.{given, and_then}
use Rattle.ranged1d.specs.Admitted.{ends_admitted, limit_admitted}
use Rattle.ranged1d.specs.declared.Limit.{Limit}
use Rattle.ranged1d.proofs.Whole.{minus-far, turned-far, from_start, not_lt, less_not_above, both_ways, between-far, some_size, no_difference, back_to_start}
use Rattle.ranged1d.proofs.Parts.{Parts, over, under, abs_parts, sum-parts, diff_parts, le_parts, parts_le, abs_close}
use Rattle.discrete.specs.Index.{index_for, pixel_index}
use Rattle.discrete.proofs.Theorems.{index_divided, index-behind}
use Rattle.rounding.proofs.Units.{int_holds}
use Rattle.real.specs.Reading.{outside}
use Rattle.real.specs.Exact.{pixels, distance, toward, away}
use Rattle.real.proofs.Cases.{inside-admitted}
use Rattle.real.proofs.Placed.{whole_answered}
use Rattle.real.proofs.Error.{Counts, count_close, between, between-share, spot-counted}
use Rattle.real.proofs.Stray.{toward-inside}
use Rattle.numeric.specs.Directed.{directed_count, directed_value, directed_from, whole_directed}
use Rattle.numeric.specs.NeedleBack.{NeedleBack, NeedleStray}
use Rattle.numeric.proofs.Readings.{ends-near}
use Rattle.numeric.proofs.Directed.{by_index}

-- ---- the index i at k pixels of N, of D + 1 values
index-near : (N w D k : ℕ) → 0 < N → k ≤ N → D * k < N * w + D → N * w < D * k + D
    → (N * (k * (D + 1) / N) < N * w + (D + N)) × (N * w < N * (k * (D + 1) / N) + (D + N)) × (k * (D + 1) / N ≤ D + 1)
index-near N w D k np kn lo hi =
    let i = k * (D + 1) / N in
    let a : i * N ≤ k * (D + 1) = div-mul-le_self (k * (D + 1)) N in
    let b : k * (D + 1) < i * N + N = lt-div-mul-add np in
    let g : k * (D + 1) ≤ N * (D + 1) = mul-le-mul_right (D + 1) kn in
    (omega arith, omega arith, le_of_mul-le-mul_right {k = N} (omega arith) np)

toward-index : (l : ℤ) (k n : ℕ) → 0 < nat_abs l → index_for (toward l k) l n ≡ given (k * n / nat_abs l)
toward-index (pos m) k n h = index_divided (pos k) (pos m) n (le-ltb k 0 (omega arith) ∙ sym (le-ltb m 0 (omega arith))) h
toward-index (negsuc m) zero n h = index-behind (pos 0) (negsuc m) n (λ e. true≢false (sym e)) ∙ ap given (sym (rw (zero-mul n) (zero-div (suc m))))
toward-index (negsuc m) (suc k) n h = index_divided (negsuc k) (negsuc m) n refl h

-- ---- k from a, downward or upward
abbrev step : Bool → ℤ → ℕ → ℤ
step t a k = cond t (a -ℤ pos k) (a +ℤ pos k)

step_of : (t : Bool) (a x : ℤ) → (t ≡ false → le_z a x ≡ true) → (t ≡ true → le_z x a ≡ true) → step t a (distance a x) ≡ x
step_of false a x f g = from_start a x (f refl)
step_of true a x f g =
    let e = ap (λ (n : ℕ). x +ℤ pos n) (turned-far x a) ∙ from_start x a (g refl) in
    ap (λ (z : ℤ). z -ℤ pos (distance a x)) (sym e) ∙ +ℤ-neg_ℤ_cancel x (pos (distance a x))

abbrev Stepped : Bool → ℤ → ℤ → ℕ → Type 0
Stepped false a x k = Parts x (over a + k) (under a)
Stepped true a x k = Parts x (over a) (under a + k)

step_parts : (t : Bool) (a : ℤ) (k : ℕ) → Stepped t a (step t a k) k
step_parts false a k = omega (arith, sum-parts a (pos k))
step_parts true a k = omega (arith, diff_parts a (pos k))

-- up to one past b the value is an i32
near_zero : (z : ℤ) (B : ℕ) → over z ≤ under z + B → under z ≤ over z + B → nat_abs z ≤ B
near_zero (pos n) B h k = omega arith
near_zero (negsuc n) B h k = omega arith

value-near : (t : Bool) (a b z : ℤ) (D i : ℕ) → nat_abs a ≤ 1000000000 → nat_abs b ≤ 1000000000 → i ≤ D + 1 → Stepped t a b D → Stepped t a z i → nat_abs z ≤ 1000000001
value-near false a b z D i na nb l p q = near_zero z 1000000001 (omega (arith, abs_parts a, abs_parts b)) (omega (arith, abs_parts a, abs_parts b))
value-near true a b z D i na nb l p q = near_zero z 1000000001 (omega (arith, abs_parts a, abs_parts b)) (omega (arith, abs_parts a, abs_parts b))

in_range : (z : ℤ) → nat_abs z ≤ 1000000001 → (lt_z (pos 2147483647) z ≡ false) × (lt_z z (negsuc 2147483646) ≡ false)
in_range (pos n) h = (le-ltb 2147483647 n (omega arith), refl)
in_range (negsuc n) h = (refl, le-ltb 2147483646 n (omega arith))

from-given : (a b : ℤ) (i : ℕ) → i ≤ 2147483647 → nat_abs (directed_value a b i) ≤ 1000000001 → directed_from a b i ≡ given (directed_value a b i)
unfolding directed_from
from-given a b i l h = rw (le-leb i 2147483647 l, (in_range (directed_value a b i) h).0, (in_range (directed_value a b i) h).1)

-- how far the value is from the needle
stray : (t : Bool) (a v z : ℤ) (N w i e : ℕ) → Stepped t a v w → Stepped t a z i → N * i < N * w + e → N * w < N * i + e → nat_abs (z -ℤ v) * N < e
stray false a v z N w i e p q lo hi = abs_close (z -ℤ v) i w N e (omega (arith, diff_parts z v)) lo hi
stray true a v z N w i e p q lo hi = abs_close (z -ℤ v) w i N e (omega (arith, diff_parts z v)) hi lo

module _ (a b v : ℤ) (limit : Limit) (ends : ends_admitted a b ≡ true) (ne : a ≡ b → ⊥) (inside : outside v a b ≡ false) (ok : limit_admitted limit ≡ true) (pq : limit.0 ≡ limit.1 → ⊥) where
  abbrev t : Bool
  t = lt_z b a

  abbrev l : ℤ
  l = limit.1 -ℤ limit.0

  b-stepped : Stepped t a b (distance a b)
  b-stepped = subst (λ (x : ℤ). Stepped t a x (distance a b)) (step_of t a b (not_lt b a) (less_not_above b a)) (step_parts t a (distance a b))

  v_stepped : Stepped t a v (distance a v)
  v_stepped =
      subst (λ (x : ℤ). Stepped t a x (distance a v)) (step_of t a v (λ e. upward (not_lt b a e) (between v a b inside)) (λ e. downward (less_not_above b a e) (between v a b inside)))
      (step_parts t a (distance a v))
    where
      upward : le_z a b ≡ true → ((le_z a v ≡ true) × (le_z v b ≡ true)) ⊎ ((le_z b v ≡ true) × (le_z v a ≡ true)) → le_z a v ≡ true
      upward h (inl w) = w.0
      upward h (inr w) = absurd (ne (both_ways a b h (parts_le b a (omega (arith, le_parts b v w.0, le_parts v a w.1)))))

      downward : le_z b a ≡ true → ((le_z a v ≡ true) × (le_z v b ≡ true)) ⊎ ((le_z b v ≡ true) × (le_z v a ≡ true)) → le_z v a ≡ true
      downward h (inl w) = absurd (ne (both_ways a b (parts_le a b (omega (arith, le_parts a v w.0, le_parts v b w.1))) h))
      downward h (inr w) = w.1

  some : 0 < pixels limit
  some = some_size l (λ z. pq (no_difference limit.0 limit.1 z))

  indexed : (k : ℕ) → k ≤ pixels limit → pixel_index (away limit k) limit (directed_count a b) ≡ given (k * directed_count a b / pixels limit)
  unfolding pixel_index
  indexed k kn =
      let o = toward-inside limit.0 limit.1 l k refl kn in
      rw (inside-admitted (away limit k) limit ok o, ok, back_to_start limit.0 (toward l k)) (toward-index l k (directed_count a b) some)

  read_at : (k : ℕ) → Counts (pixels limit) (distance a v) (distance a b) k → (z : ℤ) × (whole_directed a b (away limit k) limit ≡ given z) × (nat_abs (z -ℤ v) * pixels limit < distance a b + pixels limit)
  unfolding directed_value
  read_at k c =
      let (na, nb) = ends-near a b ends in
      let D = distance a b in
      let (kn, lo, hi) = count_close (pixels limit) (distance a v) D k (some_size (b -ℤ a) (λ z. ne (no_difference a b z))) (between-share a b v inside).1 c in
      let i = k * directed_count a b / pixels limit in
      let (below, above, most) = index-near (pixels limit) (distance a v) D k some kn lo hi in
      let s = step_parts t a i in (
        step t a i,
        by_index a b (away limit k) limit ends ∙ ap (λ r. and_then r (directed_from a b)) (indexed k kn) ∙ from-given a b i (omega (arith, minus-far b a, na, nb, most)) (value-near t a b (step t a i) D i na nb most b-stepped s),
        stray t a v (step t a i) (pixels limit) (distance a v) i (D + pixels limit) v_stepped s below above,
      )

  v_near : nat_abs v ≤ 1000000000
  v_near = go (between v a b inside)
    where
      go : ((le_z a v ≡ true) × (le_z v b ≡ true)) ⊎ ((le_z b v ≡ true) × (le_z v a ≡ true)) → nat_abs v ≤ 1000000000
      go (inl w) = between-far 1000000000 a v b w.0 w.1 (ends-near a b ends).0 (ends-near a b ends).1
      go (inr w) = between-far 1000000000 b v a w.0 w.1 (ends-near a b ends).1 (ends-near a b ends).0

  back : NeedleBack a b v limit
  back =
      let (na, nb) = ends-near a b ends in
      let (k, at, c) = spot-counted (of_int binary64 a) (of_int binary64 b) (of_int binary64 v) a b v limit (int_holds binary64 a (omega (arith, na))) (int_holds binary64 b (omega (arith, nb)))
      (int_holds binary64 v (omega (arith, v_near))) na nb ne inside ok in
      let (z, r, w) = read_at k c in
      record { place = away limit k; placed = whole_answered a b v limit ends (le-leb (nat_abs v) 1000000000 v_near) ok at; reading = z; read = r; near = w }

pub read_back : NeedleStray
read_back a b v limit ends ne inside ok pq = back a b v limit ends ne inside ok pq
