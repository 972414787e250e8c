-- The mark limit of a film, shared out. Assumes nothing.
use mathlib.Core.Path.{◌≡◌, ◌∙◌}
use mathlib.Core.Bool.{Bool, true, false, cond}
use Prim.Native.Nat.{ℕ, zero, suc, ◌+◌, ◌*◌, ◌/◌, ◌%◌, ◌≤◌, ◌<◌}
use native.Mathlib.Nat.{mod-lt, suc-mul, div-add-mod, le-mul_of_pos_right, mul_comm}
use native.Mathlib.Decide.{dec_lt}
use native.Mathlib.Omega.{arith}
use borrow.Author.Tests.{lt-ltb, le-ltb}
use lib.Dec.{ltb}
use Rattle.film.specs.Film.{share}
use Rattle.film.specs.Films.{shares_of, Shares}

module _ (M n : ℕ) where
  pub share-more : {i : ℕ} → i < M % n → share M n i ≡ M / n + 1
  share-more {i} h = rw (lt-ltb i (M % n) h)

  pub share_even : {i : ℕ} → M % n ≤ i → share M n i ≡ M / n
  share_even {i} h = rw (le-ltb i (M % n) h) (omega arith)

  -- one more is no more than M, where something is left over
  pub one_more : (0 < n) → 0 < M % n → M / n + 1 ≤ M
  one_more p h = omega (arith, div-add-mod M n, le-mul_of_pos_right (M / n) p, mul_comm (M / n) n)

  pub share-most : (0 < n) → (i : ℕ) → share M n i ≤ M
  share-most p i = go (dec_lt i (M % n))
    where
      go : Dec (i < M % n) → share M n i ≤ M
      go (yes h) = omega (arith, share-more h, one_more p (omega arith))
      go (no h) = let e = share_even {i = i} (omega arith) in omega (arith, e, div-add-mod M n, le-mul_of_pos_right (M / n) p, mul_comm (M / n) n)

  -- the first k shares: k whole parts, and one more for each of the first ones
  sum_is : (k : ℕ) → (k ≤ M % n → shares_of M n k ≡ k * (M / n) + k) × (M % n ≤ k → shares_of M n k ≡ k * (M / n) + M % n)
  sum_is zero = (λ h. omega arith, λ h. omega arith)
  sum_is (suc k) = go (dec_lt k (M % n)) (sum_is k)
    where
      go : Dec (k < M % n) → (k ≤ M % n → shares_of M n k ≡ k * (M / n) + k) × (M % n ≤ k → shares_of M n k ≡ k * (M / n) + M % n)
          → (suc k ≤ M % n → shares_of M n (suc k) ≡ suc k * (M / n) + suc k) × (M % n ≤ suc k → shares_of M n (suc k) ≡ suc k * (M / n) + M % n)
      go (yes h) rec =
          let s = rec.0 (omega arith) in
          let e = share-more h in
          let m = suc-mul k (M / n) in
          (λ l. omega (arith, s, e, m), λ l. omega (arith, s, e, m))
      go (no h) rec =
          let s = rec.1 (omega arith) in
          let e = share_even {i = k} (omega arith) in
          let m = suc-mul k (M / n) in
          (λ l. absurd (omega (arith, l, h)), λ l. omega (arith, s, e, m))

  add_up : 0 < n → shares_of M n n ≡ M
  add_up p = let r = mod-lt M p in (sum_is n).1 (omega arith) ∙ div-add-mod M n

  level : (i j : ℕ) → share M n i ≤ share M n j + 1
  level i j = go (ltb i (M % n)) (ltb j (M % n))
    where
      go : (t u : Bool) → M / n + cond t 1 0 ≤ M / n + cond u 1 0 + 1
      go true true = omega arith
      go true false = omega arith
      go false true = omega arith
      go false false = omega arith

  pub shares : 0 < n → Shares M n
  shares p = record { add_up = add_up p; level = level }
