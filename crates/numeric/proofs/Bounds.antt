-- How far from 0 the marks lie, how far apart the first and another lie, and how many there are. Assumes nothing.
use mathlib.Core.Path.{◌≡◌, sym, ap, ◌∙◌, subst}
use Prim.Native.Nat.{ℕ, zero, suc, ◌+◌, ◌-◌, ◌*◌, ◌/◌, ◌≤◌, ◌<◌, max}
use native.Mathlib.Nat.{div-mul-le_self, mul-le-mul_right, mul-le-mul_left, le_trans, le_of_suc-le-suc, div-lt_iff_lt-mul, mul-one, one-mul, add-mul, max-eq_left, max-eq_right, zero-mul, suc-mul}
use native.Mathlib.Numerals.{add-one}
use native.Mathlib.Decide.{dec_le}
use native.Mathlib.Omega.{arith}
use lib.IntN.{ℤ, pos, negsuc, nat_abs, ◌+ℤ◌, ◌-ℤ◌, ◌*ℤ◌, +ℤ_idr, suc_ℤ-*ℤ, +ℤ-suc_ℤ, +ℤ_assoc}
use Rattle.ranged1d.specs.Numbers.{raised}
use Rattle.ranged1d.proofs.Whole.{sub_cases, neg-far, add-far, minus-far, quotient-far, near_on, times_far, raised-far}
use Rattle.numeric.specs.Marks.{how_many, first_index, last_index, multiple}
use Rattle.numeric.specs.Calls.{element}
use Rattle.numeric.proofs.Reflect.{last_of}

-- i, i + 1, .., j lie no further from 0 than i or j
pub between : (i j : ℤ) (k : ℕ) → k < how_many i j → nat_abs (i +ℤ pos k) ≤ max (nat_abs i) (nat_abs j)
between i j k h =
    let r = how_many i j - suc k in
    let end : j ≡ i +ℤ pos (k + r) = last_of i j k r (omega arith) in
    near_on (max (nat_abs i) (nat_abs j)) i k (k + r) (omega arith) (omega arith) (subst (λ (z : ℤ). nat_abs z ≤ max (nat_abs i) (nat_abs j)) end (omega arith))

pub many_far : (i j : ℤ) → how_many i j ≤ nat_abs j + 1 + nat_abs i
many_far i j = omega (arith, raised-far (j +ℤ pos 1 -ℤ i), minus-far (j +ℤ pos 1) i, add-far j (pos 1))

-- from a number that is not negative on
pub many_from : (x : ℕ) (j : ℤ) → how_many (pos x) j ≤ nat_abs j + 1
many_from x j = go (j +ℤ pos 1) x (omega (arith, add-far j (pos 1)))
  where
    go : (z : ℤ) (x : ℕ) → nat_abs z ≤ nat_abs j + 1 → raised (z -ℤ pos x) ≤ nat_abs j + 1
    go (pos n) zero h = omega arith
    go (pos n) (suc x) h = sub_cases n (suc x) (λ w. raised w ≤ nat_abs j + 1) (λ l. omega arith) (λ l. omega arith)
    go (negsuc n) zero h = sub_cases 0 (suc n) (λ w. raised w ≤ nat_abs j + 1) (λ l. omega arith) (λ l. omega arith)
    go (negsuc n) (suc x) h = omega arith

pub first_times : (lo : ℤ) (s : ℕ) → nat_abs (first_index lo s) * s ≤ nat_abs lo + s
first_times (pos n) s = omega (arith, div-mul-le_self (n + (s - 1)) s)
first_times (negsuc n) s = rw (neg-far (pos (suc n / s))) (omega (arith, div-mul-le_self (suc n) s))

pub last_times : (hi : ℤ) (s : ℕ) → nat_abs (last_index hi s) * s ≤ nat_abs hi
last_times (pos n) s = div-mul-le_self n s
last_times (negsuc n) s = rw (neg-far (pos (suc n / s))) (div-mul-le_self (suc n) s)

pub first-far : (lo : ℤ) (s : ℕ) → 0 < s → nat_abs (first_index lo s) ≤ nat_abs lo
first-far (pos n) s h =
    le_of_suc-le-suc (rw (← add-one n) ((div-lt_iff_lt-mul h).1 (omega (arith, mul-le-mul_left n h, mul-one n, add-mul n 1 s, one-mul s))))
first-far (negsuc n) s h = quotient-far (negsuc n) (pos s)

pub max_times : (a b s x : ℕ) → a * s ≤ x → b * s ≤ x → max a b * s ≤ x
max_times a b s x p q = go (dec_le a b)
  where
    go : Dec (a ≤ b) → max a b * s ≤ x
    go (yes l) = rw (max-eq_right l) q
    go (no f) = let l : b ≤ a = omega arith in rw (max-eq_left l) p

-- mark k is multiple i + k, and it lies k steps after the first
pub multiple-element : (i : ℤ) (s k : ℕ) → multiple i s k ≡ element (i *ℤ pos s) (pos s) k
multiple-element i s zero =
    ap (λ (z : ℤ). z *ℤ pos s) (+ℤ_idr i) ∙ sym (ap (λ (n : ℕ). i *ℤ pos s +ℤ pos n) (zero-mul s) ∙ +ℤ_idr (i *ℤ pos s))
multiple-element i s (suc k) =
    ap (λ (z : ℤ). z *ℤ pos s) (+ℤ-suc_ℤ i (pos k))
    ∙ suc_ℤ-*ℤ (i +ℤ pos k) (pos s)
    ∙ ap (λ (z : ℤ). z +ℤ pos s) (multiple-element i s k)
    ∙ +ℤ_assoc (i *ℤ pos s) (pos (k * s)) (pos s)
    ∙ ap (λ (n : ℕ). i *ℤ pos s +ℤ pos n) (sym (suc-mul k s))

steps_apart : (lo : ℤ) (j : ℤ) (s k y : ℕ) → nat_abs j * s ≤ y → k < how_many (first_index lo s) j → k * s ≤ nat_abs lo + y
steps_apart (pos n) j s k y l h =
    let few : k ≤ nat_abs j = omega (arith, many_from ((n + (s - 1)) / s) j) in
    omega (arith, mul-le-mul_right s few)
steps_apart (negsuc n) j s k y l h =
    let i = first_index (negsuc n) s in
    let few : k ≤ nat_abs j + nat_abs i = omega (arith, many_far i j) in
    omega (arith, mul-le-mul_right s few, add-mul (nat_abs j) (nat_abs i) s, ap (λ (x : ℕ). x * s) (neg-far (pos (suc n / s))), div-mul-le_self (suc n) s)

module _ (lo hi : ℤ) (s k : ℕ) (h : k < how_many (first_index lo s) (last_index hi s)) where
  pub mark-far : nat_abs (multiple (first_index lo s) s k) ≤ max (nat_abs lo + s) (nat_abs hi)
  mark-far =
      rw (times_far (first_index lo s +ℤ pos k) s)
      (le_trans (mul-le-mul_right s (between (first_index lo s) (last_index hi s) k h))
      (max_times (nat_abs (first_index lo s)) (nat_abs (last_index hi s)) s (max (nat_abs lo + s) (nat_abs hi))
      (omega (arith, first_times lo s))
      (omega (arith, last_times hi s))))

  pub apart : k * s ≤ nat_abs lo + nat_abs hi
  apart = steps_apart lo (last_index hi s) s k (nat_abs hi) (last_times hi s) h

-- of admitted ends and one of the steps
module _ (lo hi : ℤ) (s : ℕ) (hl : nat_abs lo ≤ 1000000000) (hh : nat_abs hi ≤ 1000000000) (hs : 0 < s) (ht : s ≤ 1000000000) where
  pub marks-near : (k : ℕ) → k < how_many (first_index lo s) (last_index hi s) → (k * s ≤ 2000000000) × (nat_abs (multiple (first_index lo s) s k) ≤ 2000000000)
  marks-near k h = (omega (arith, apart lo hi s k h), omega (arith, mark-far lo hi s k h))

  pub first-near : nat_abs (first_index lo s *ℤ pos s) ≤ 2000000000
  first-near = rw (times_far (first_index lo s) s) (omega (arith, first_times lo s))

  pub count-near : how_many (first_index lo s) (last_index hi s) ≤ 2000000001
  count-near = omega (arith, many_far (first_index lo s) (last_index hi s), first-far lo s hs, quotient-far hi (pos s))
