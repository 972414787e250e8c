-- Signs and sizes from the tests of the code. Assumes nothing.
use mathlib.Core.Path.{◌≡◌, refl, ap}
use mathlib.Core.Bool.{false}
use Prim.Native.Nat.{ℕ, ◌*◌}
use lib.Dec.{ltb}
use lib.Ieee.{Float, nan, inf, fin, up, down, binary64, of_bits, lt}
use native.Mathlib.Nat.{mul-one}
use Rattle.std.specs.Float.{is_sign_negative, float_with_sign}
use Rattle.float.specs.Text.{sign_of, size_of}
use Rattle.float.specs.Calls.{printable}

-- ---- signs
pub sign_is : (n : Float) → is_sign_negative n ≡ sign_of n
unfolding is_sign_negative
sign_is nan = refl
sign_is (inf s) = refl
sign_is (fin s m e) = refl

pub size_is : (n : Float) → float_with_sign false n ≡ size_of n
unfolding float_with_sign
size_is nan = refl
size_is (inf s) = refl
size_is (fin s m e) = refl

-- ---- the size is below 2 ^ 53
pub admitted : (n : Float) → lt (float_with_sign false n) (of_bits binary64 4845873199050653696) ≡ printable n
unfolding float_with_sign lt of_bits printable
admitted nan = refl
admitted (inf s) = refl
admitted (fin s m e) = ap (λ (k : ℕ). ltb k (9007199254740992 * down e)) (mul-one (m * up e))
