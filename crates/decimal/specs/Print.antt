-- Whole numbers in base ten: 01 "Ruler bytes" for labels, and the lines of the ruler program in 01 "From the drafting table". A text is
-- a list of bytes. Assumes nothing.
use Rattle.std.specs.Prelude.{ℕ, zero, suc, ◌+◌, ◌-◌, ◌/◌, ◌%◌, Bool, cond, List, [], ◌∷◌, ◌++◌, ltb, ℤ, pos, negsuc, length, replicate}
use Rattle.decimal.specs.declared.Text.{Text}

-- a digit's byte; the bytes of a minus sign, of a decimal point and of a blank
abbrev pub digit : ℕ → ℕ
digit d = 48 + d

abbrev pub minus : ℕ
minus = 45

abbrev pub point : ℕ
point = 46

abbrev pub blank : ℕ
blank = 32

-- n in base ten, without leading zeros, where f + 1 digits are enough
unfoldable pub digits : ℕ → ℕ → List ℕ
digits zero n = digit n ∷ []
digits (suc f) n = cond (ltb n 10) (digit n ∷ []) (digits f (n / 10) ++ (digit (n % 10) ∷ []))

-- the last f digits of n; where n has fewer, zeros stand in front
unfoldable pub last_digits : ℕ → ℕ → List ℕ
last_digits zero n = []
last_digits (suc f) n = last_digits f (n / 10) ++ (digit (n % 10) ∷ [])

-- ten digits are enough for every number of 32 bits
abbrev pub natural : ℕ → List ℕ
natural n = digits 9 n

-- and twenty for every number of 64 bits
abbrev pub long_natural : ℕ → List ℕ
long_natural n = digits 19 n

-- a minus sign in front of the digits, where it is asked for
abbrev pub signed_digits : Bool → ℕ → ℕ → List ℕ
signed_digits negative f n = cond negative (minus ∷ digits f n) (digits f n)

-- a minus sign in front of a negative number, and only there
abbrev pub decimal : ℤ → List ℕ
decimal (pos n) = natural n
decimal (negsuc n) = minus ∷ natural (suc n)

-- a text filled on the left to w bytes, with the byte c
abbrev pub filled_with : ℕ → ℕ → List ℕ → List ℕ
filled_with c w t = replicate (w - length t) c ++ t

-- and with blanks
abbrev pub filled_to : ℕ → List ℕ → List ℕ
filled_to w t = filled_with blank w t

-- a label: filled to 11 bytes
abbrev pub filled : List ℕ → List ℕ
filled t = filled_to 11 t

abbrev pub label_of : ℤ → List ℕ
label_of z = filled (decimal z)

-- a text filled to w bytes, with the number of its blanks
abbrev pub padded : (w : ℕ) → List ℕ → Text w
padded w t = record { bytes = filled_to w t; blanks = w - length t }

-- a label's
abbrev pub text_of : List ℕ → Text 11
text_of t = padded 11 t

-- a longer number's: twenty digits and a sign
abbrev pub long_text_of : List ℕ → Text 21
long_text_of t = padded 21 t
