-- The exponent of a scientific label, told by its place in the table of powers. Assumes nothing.
use mathlib.Core.Path.{◌≡◌, refl}
use mathlib.Core.Bool.{Bool, true, false}
use Prim.Native.Nat.{ℕ, suc, ◌-◌, ◌≤◌, ◌<◌}
use native.Mathlib.Omega.{arith}
use lib.Dec.{ltb}
use lib.IntN.{pos, negsuc, nat_abs, ◌-ℤ◌}
use lib.ListN.{length}
use borrow.Author.Tests.{lt-ltb, le-ltb, ltb-true, ltb-false}
use mir.Syntax.{w32}
use mir.Val.{to_z, of_z}
use Rattle.std.proofs.lemmas.Int.{to_z_pos, to_z-of_z}
use Rattle.ranged1d.proofs.Whole.{sub-size, fits32}
use Rattle.decimal.specs.Print.{digits, decimal}
use Rattle.decimal.proofs.Digits.{digits-few}
use Rattle.float.specs.Scientific.{exponent_at}

pub exponent_below : (k : ℕ) → k < 307 → exponent_at k ≡ negsuc (307 - suc k)
exponent_below k h = rw (lt-ltb k 307 h)

pub exponent_above : (k : ℕ) → 307 ≤ k → exponent_at k ≡ pos (k - 307)
exponent_above k h = rw (le-ltb k 307 h)

-- as the code has it, a difference of two i32
pub exponent_is : (k : ℕ) → k ≤ 616 → to_z w32 (of_z w32 (to_z w32 k -ℤ pos 307)) ≡ exponent_at k
exponent_is k h = rw (to_z_pos w32 k (omega arith)) (to_z-of_z w32 (exponent_at k) (fits32 (exponent_at k) (omega (arith, sub-size k 307))))

-- ---- its text
-- of at most four bytes
pub exponent_four : (k : ℕ) → k ≤ 616 → length (decimal (exponent_at k)) ≤ 4
exponent_four k h = go (ltb k 307) refl
  where
    go : (b : Bool) → ltb k 307 ≡ b → length (decimal (exponent_at k)) ≤ 4
    go true e =
        let l = ltb-true k 307 e in
        let d : length (digits 9 (suc (307 - suc k))) ≤ 3 = digits-few 9 2 (suc (307 - suc k)) (omega arith) in
        rw (exponent_below k l) (omega arith)
    go false e =
        let l = ltb-false k 307 e in
        let d : length (digits 9 (k - 307)) ≤ 3 = digits-few 9 2 (k - 307) (omega arith) in
        rw (exponent_above k l) (omega arith)

-- of at most two where it is not negative and no number is too large
pub exponent_two : (k : ℕ) → 307 ≤ k → k ≤ 323 → length (decimal (exponent_at k)) ≤ 2
exponent_two k l h =
    let d : length (digits 9 (k - 307)) ≤ 2 = digits-few 9 1 (k - 307) (omega arith) in
    rw (exponent_above k l) (omega arith)

-- ---- whether it is below 3 in size
pub short_true : (k : ℕ) → ltb (nat_abs (exponent_at k)) 3 ≡ true → k ≤ 309
short_true k h = let l = ltb-true (nat_abs (exponent_at k)) 3 h in omega (arith, sub-size k 307)

pub short_false : (k : ℕ) → ltb (nat_abs (exponent_at k)) 3 ≡ false → 304 < k → 310 ≤ k
short_false k h u = let l = ltb-false (nat_abs (exponent_at k)) 3 h in omega (arith, sub-size k 307)
