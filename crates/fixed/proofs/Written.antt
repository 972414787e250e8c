-- The digits that the library writes. Assumes nothing.
use mathlib.Core.Path.{◌≡◌, sym}
use mathlib.Core.Bool.{cond}
use mathlib.Core.List.{[], ◌∷◌, ◌++◌}
use mathlib.Core.Logic.{◌⊎◌, inl, inr}
use Prim.Native.Nat.{ℕ, zero, suc, ◌+◌, ◌/◌, ◌%◌, ◌^◌, ◌≤◌, ◌<◌}
use native.Mathlib.Omega.{arith}
use lib.Dec.{ltb}
use borrow.Author.Tests.{lt-ltb, le-ltb}
use Rattle.std.specs.Fmt.{decimal as written}
use Rattle.std.proofs.lemmas.Fmt.{decimal_digit, decimal_step}
use Rattle.ranged1d.proofs.Bools.{le_or}
use Rattle.decimal.specs.Print.{digit, digits}
use Rattle.decimal.proofs.Digits.{tenth_small}

-- where f + 1 digits are enough for n, the library's are the same
pub digits-written : (f n : ℕ) → n < 10 ^ suc f → n < 2 ^ 64 → digits f n ≡ written n
unfolding digits
digits-written zero n h l = sym (decimal_digit n (omega arith))
digits-written (suc f) n h l = go (le_or 10 n) (digits-written f (n / 10) (tenth_small n (suc f) h) (omega arith))
  where
    go : (10 ≤ n) ⊎ (n < 10) → digits f (n / 10) ≡ written (n / 10) → cond (ltb n 10) (digit n ∷ []) (digits f (n / 10) ++ (digit (n % 10) ∷ [])) ≡ written n
    go (inl m) r = rw (le-ltb n 10 m, r) (sym (decimal_step n m l))
    go (inr m) r = rw (lt-ltb n 10 m) (sym (decimal_digit n m))
