-- The rows of specs/Worked, checked by computing the rules. Assumes nothing.
use Prim.Native.Nat.{ℕ}
use mathlib.Core.Path.{◌≡◌, refl}
use mathlib.Core.List.{List, map}
use lib.IntN.{ℤ}
use Rattle.ranged1d.specs.Answer.{Answer}
use Rattle.decimal.specs.Print.{digits}
use Rattle.decimal.specs.Read.{value_of, same_bytes}
use Rattle.fixed.specs.Fixed.{last_digits, fraction, size_text, fixed_text, unpointed, number_in, fixed_read}
use Rattle.fixed.specs.Worked.{texts, readings}

pub texts_worked : map (λ (r : ℤ × ℕ × List ℕ). fixed_text r.1 r.0) texts ≡ map (λ (r : ℤ × ℕ × List ℕ). r.2) texts
unfolding size_text fraction last_digits digits
texts_worked = refl

pub readings_worked : map (λ (r : List ℕ × ℕ × Answer ℤ). fixed_read r.0 r.1) readings ≡ map (λ (r : List ℕ × ℕ × Answer ℤ). r.2) readings
unfolding fixed_read number_in unpointed value_of same_bytes size_text fraction last_digits digits
readings_worked = refl
