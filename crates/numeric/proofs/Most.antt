-- The search for a step, and how many marks there are: what was chosen serves, nothing before it does, and an axis that has a step has
-- at most m + 1 marks. Assumes nothing.
use mathlib.Core.Path.{◌≡◌, refl, sym, ap, ◌∙◌, subst}
use mathlib.Core.Bool.{Bool, true, false, cond}
use Prim.Native.Nat.{ℕ, zero, suc, ◌+◌, ◌-◌, ◌*◌, ◌/◌, ◌≤◌, ◌<◌}
use native.Mathlib.Nat.{add-mul, div-mul-le_self, lt-div-mul-add, le-div_iff_mul-le}
use native.Mathlib.Decide.{dec_le}
use native.Mathlib.Omega.{arith}
use borrow.Author.Tests.{leb-true, leb-false, ltb-true}
use lib.Dec.{T, leb, ltb}
use lib.IntN.{ℤ, pos, negsuc, neg_ℤ, nat_abs, ◌+ℤ◌, ◌-ℤ◌, neg_ℤ-neg_ℤ}
use lib.ListN.{length}
use lib.Signed.{le_z}
use Rattle.ranged1d.specs.Numbers.{raised}
use Rattle.ranged1d.proofs.Whole.{low-high, sub_cases, sub-size}
use Rattle.numeric.specs.declared.Choice.{Choice}
use Rattle.numeric.specs.Marks.{low, high, how_many, first_index, last_index, distance, step_at, power_of_ten, ceil_div, serves, first_of, chosen, no_step_for, no_step, step_for, marks_by}
use Rattle.numeric.proofs.Steps.{step_pos}
use Rattle.numeric.proofs.Inside.{count_by, fewer}
use Rattle.numeric.proofs.Reflect.{many_pos, many_turned}

-- what the search found passes the test
pub found_passes : (p : ℕ → Bool) (k n : ℕ) → first_of p k n < k + n → p (first_of p k n) ≡ true
unfolding first_of
found_passes p k zero h = absurd (omega arith)
found_passes p k (suc n) h = go (p k) refl h (found_passes p (suc k) n)
  where
    go : (t : Bool) → p k ≡ t → cond t k (first_of p (suc k) n) < k + suc n → (first_of p (suc k) n < suc k + n → p (first_of p (suc k) n) ≡ true) → p (cond t k (first_of p (suc k) n)) ≡ true
    go true e l r = e
    go false e l r = r (omega arith)

-- and nothing before it does
pub none_before : (p : ℕ → Bool) (k n j : ℕ) → k ≤ j → j < first_of p k n → p j ≡ false
unfolding first_of
none_before p k zero j h l = absurd (omega arith)
none_before p k (suc n) j h l = go (p k) refl l (none_before p (suc k) n j)
  where
    go : (t : Bool) → p k ≡ t → j < cond t k (first_of p (suc k) n) → (suc k ≤ j → j < first_of p (suc k) n → p j ≡ false) → p j ≡ false
    go true e u r = absurd (omega arith)
    go false e u r = next (dec_le (suc k) j)
      where
        next : Dec (suc k ≤ j) → p j ≡ false
        next (yes y) = r y u
        next (no f) = let same : j ≡ k = omega arith in ap p same ∙ e

pub chosen-serves : (d m : ℕ) → chosen d m < 28 → serves d m (chosen d m) ≡ true
unfolding chosen
chosen-serves d m h = found_passes (serves d m) 0 28 h

pub chosen-first : (d m j : ℕ) → j < chosen d m → serves d m j ≡ false
unfolding chosen
chosen-first d m j h = none_before (serves d m) 0 28 j (omega arith) h

pub serves-few : (d m k : ℕ) → serves d m k ≡ true → ceil_div d (step_at k) ≤ m
serves-few d m k h = go (power_of_ten k) h
  where
    go : (t : Bool) → cond t (leb (ceil_div d (step_at k)) m) (ltb (ceil_div d (step_at k)) m) ≡ true → ceil_div d (step_at k) ≤ m
    go true e = leb-true (ceil_div d (step_at k)) m e
    go false e = omega (arith, ltb-true (ceil_div d (step_at k)) m e)

-- the distance, by the signs
pub apart_pos : (p q : ℕ) → p ≤ q → nat_abs (pos q -ℤ pos p) ≡ q - p
apart_pos p q h = omega (arith, sub-size q p)

pub apart_neg : (p q : ℕ) → q ≤ p → nat_abs (negsuc q -ℤ negsuc p) ≡ p - q
apart_neg p q h = sub_cases (suc p) (suc q) (λ z. nat_abs z ≡ p - q) (λ l. omega arith) (λ l. omega arith)

pub many_across : (f l : ℕ) → how_many (neg_ℤ (pos f)) (pos l) ≡ l + 1 + f
many_across f l = ap (λ (z : ℤ). raised (pos (l + 1) +ℤ z)) (neg_ℤ-neg_ℤ (pos f))

module _ (s : ℕ) (hs : 0 < s) where
  -- l - f steps take no more than d and what is left of one step
  few : (f l d : ℕ) → l * s ≤ f * s + (d + (s - 1)) → l - f ≤ ceil_div d s
  few f l d h = go (dec_le f l)
    where
      go : Dec (f ≤ l) → l - f ≤ ceil_div d s
      go (no r) = omega arith
      go (yes r) =
          let whole : (l - f) * s + f * s ≡ l * s = sym (add-mul (l - f) f s) ∙ ap (λ (n : ℕ). n * s) (let e : l - f + f ≡ l = omega arith in e) in
          (le-div_iff_mul-le hs).1 (omega (arith, whole))

  count-few : (lo hi : ℤ) → le_z lo hi ≡ true → how_many (first_index lo s) (last_index hi s) ≤ ceil_div (distance lo hi) s + 1
  count-few (pos p) (pos q) h =
      rw (many_pos (ceil_div p s) (q / s), apart_pos p q (leb-true p q h))
      (omega (arith, few (ceil_div p s) (q / s) (q - p) (omega (arith, leb-true p q h, div-mul-le_self q s, lt-div-mul-add {a = p + (s - 1)} hs))))
  count-few (pos p) (negsuc q) h = absurd (subst T (sym h) tt)
  count-few (negsuc p) (pos q) h =
      rw (many_across (suc p / s) (q / s))
      (omega (arith, few 0 (q / s + suc p / s) (q + suc p) (omega (arith, add-mul (q / s) (suc p / s) s, div-mul-le_self q s, div-mul-le_self (suc p) s))))
  count-few (negsuc p) (negsuc q) h =
      rw (many_turned (pos (suc q / s)) (pos (suc p / s)), many_pos (suc q / s) (suc p / s), apart_neg p q (leb-true q p h))
      (omega (arith, few (suc q / s) (suc p / s) (p - q) (omega (arith, leb-true q p h, div-mul-le_self (suc p) s, lt-div-mul-add {a = suc q} hs))))

pub at_most : (c : Choice) (a b : ℤ) (m : ℕ) → no_step a b m ≡ false → length (marks_by c a b m) ≤ m + 1
unfolding no_step_for step_for
at_most c a b m h =
    let lo = low a b in
    let hi = high a b in
    let k = chosen (distance lo hi) m in
    let l : k < 28 = leb-false 28 k h in
    rw (count_by c a b m)
    (omega (arith, fewer (step_at k) (step_pos k l) c (first_index lo (step_at k)) hi, count-few (step_at k) (step_pos k l) lo hi (low-high a b), serves-few (distance lo hi) m k (chosen-serves (distance lo hi) m l)))
