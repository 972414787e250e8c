-- 02 (n): scientific labels, after `print` of plotters' float.rs where it allows them. The decade comes from the table of 02 (d), where the source has a
-- logarithm and a power. Each operation is rounded as in IEEE 754. Assumes nothing.
use Rattle.std.specs.Prelude.{Bool, cond, ◌||◌, List, [], ◌∷◌, ◌++◌, ℕ, ◌+◌, ltb, ℤ, pos, nat_abs, ◌-ℤ◌, length, Float}
use Rattle.std.specs.Float.{binary64}
use Rattle.std.specs.Float.Ieee.{of_bits, add, mul, div, le, eq}
use Rattle.decades.specs.Powers.{power}
use Rattle.decades.specs.Decade.{decade_index}
use Rattle.decimal.specs.Print.{decimal}
use Rattle.float.specs.declared.Shortened.{Shortened}
use Rattle.float.specs.Shorten.{shorten, tolerance, ten}
use Rattle.float.specs.Text.{size_of, nought, shown_of, plotters_text, label_of}

-- 0.0 and 0.00001
abbrev pub zero_float : Float
zero_float = of_bits binary64 0

abbrev pub tiny : Float
tiny = of_bits binary64 0x3EE4_F8B5_88E3_68F1

-- ---- the power of ten in front of which the mantissa stands, for a number of the size x
-- whether x by its decade, and 0.00001, comes to ten or more
unfoldable pub comes_to_ten : Float → Bool
comes_to_ten x = le ten (add binary64 (div binary64 x (power (decade_index x))) tiny)

-- then the exponent is that of the decade and one more. It is told by its place in the table, which begins with 10 ^ −307.
unfoldable pub table_index : Float → ℕ
table_index x = cond (comes_to_ten x) (decade_index x + 1) (decade_index x)

-- and the power is ten times the decade, rounded, which need not be the table's next entry
unfoldable pub scale_of : Float → Float
scale_of x = cond (comes_to_ten x) (mul binary64 (power (decade_index x)) ten) (power (decade_index x))

-- the exponent that belongs to a place, and the one that is printed of a number n
abbrev pub exponent_at : ℕ → ℤ
exponent_at k = pos k -ℤ pos 307

abbrev pub exponent_of : Float → ℤ
exponent_of n = exponent_at (table_index (size_of n))

-- ---- the texts
-- the number by that power, shortened with the tolerance 0.00001, which reaches 1 after five levels
unfoldable pub mantissa_of : Float → Shortened
mantissa_of n = shorten 5 (div binary64 n (scale_of (size_of n))) tiny

-- the byte of an e
abbrev pub letter : ℕ
letter = 101

-- the mantissa with e decimals or more, the letter e, and the exponent as a whole number is printed, without blanks
unfoldable pub scientific_text : Float → ℕ → List ℕ
scientific_text n e = shown_of (mantissa_of n) e ++ (letter ∷ decimal (exponent_of n))

-- It is preferred where plotters' plain text is longer by more than one byte, or where the plain text is that of a number shortened to zero. That text is
-- counted with its sign, be it one that 02 (b) drops.
unfoldable pub prefers : Float → ℕ → ℕ → Bool
prefers n h e = ltb (length (scientific_text n e) + 1) (length (plotters_text n h e)) || eq (shorten h n (tolerance h)).value zero_float

-- The scientific label of n: a zero is one byte, whatever h and e are; an exponent of less than 3 in size gives the plain label; any other one the text
-- that is preferred.
unfoldable pub scientific_of : Float → ℕ → ℕ → List ℕ
scientific_of n h e =
    cond (eq n zero_float) (nought ∷ [])
    (cond (ltb (nat_abs (exponent_of n)) 3) (label_of n h e)
    (cond (prefers n h e) (scientific_text n e) (label_of n h e)))
