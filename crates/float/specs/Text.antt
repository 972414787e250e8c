-- The text of a shortened number: 01 "Whole reading, segments, real labels", its paragraph on real labels, after `float_to_string` of plotters; and 02
-- (b), which drops a sign from it. Numbers are taken to whole numbers by floor and by round, without a bound, so the rule has no cast that could cut.
-- Assumes nothing.
use Rattle.std.specs.Prelude.{Bool, false, cond, not, ◌&&◌, List, [], ◌∷◌, ◌++◌, ℕ, zero, suc, ◌+◌, ◌-◌, ◌^◌, leb, ltb, eqb, pos, nat_abs, length, drop, replicate, Float}
use Rattle.std.specs.Float.{nan, inf, fin, binary64}
use Rattle.std.specs.Float.Ieee.{of_int, sub, mul}
use Rattle.rounding.specs.Integral.{floors, halves, floor_of}
use Rattle.rounding.specs.Within.{whole_of}
use Rattle.ranged1d.specs.Numbers.{every}
use Rattle.decimal.specs.Print.{digit, minus, long_natural, signed_digits, filled_with}
pub use Rattle.decimal.specs.Print.{point}
use Rattle.float.specs.declared.Shortened.{Shortened}
use Rattle.float.specs.Shorten.{shorten, tolerance}

-- ---- a number taken apart
-- whether it has a minus sign; a zero keeps its own
abbrev pub sign_of : Float → Bool
sign_of nan = false
sign_of (inf s) = s
sign_of (fin s m e) = s

-- the number without its sign
abbrev pub size_of : Float → Float
size_of nan = nan
size_of (inf s) = inf false
size_of (fin s m e) = fin false m e

-- the whole part: the greatest whole number that is at most the size
abbrev pub whole_part : Float → ℕ
whole_part x = nat_abs (whole_of floors (size_of x))

-- the decimals as one number: what the size has above its floor, times 10 to the power p, to the nearest whole number, a half going up
abbrev pub decimals_of : Float → ℕ → ℕ
decimals_of x p = nat_abs (whole_of halves (mul binary64 (sub binary64 (size_of x) (floor_of (size_of x))) (of_int binary64 (pos (10 ^ p)))))

-- whether rounding makes a whole one of the decimals: never where there are none
abbrev pub fills_up : Float → ℕ → Bool
fills_up x zero = false
fills_up x (suc p) = leb (10 ^ suc p) (decimals_of x (suc p))

-- ---- its bytes
abbrev pub nought : ℕ
nought = digit 0

-- a text with zeros in front, to p bytes
abbrev pub padded : ℕ → List ℕ → List ℕ
padded p t = filled_with nought p t

-- a byte in front of a text, unless it is a zero with nothing behind it
abbrev pub ahead : ℕ → List ℕ → List ℕ
ahead c [] = cond (eqb c nought) [] (c ∷ [])
ahead c (d ∷ t) = c ∷ d ∷ t

-- a text without the zeros at its end
unfoldable pub without_zeros : List ℕ → List ℕ
without_zeros [] = []
without_zeros (c ∷ t) = ahead c (without_zeros t)

-- The decimals of p levels, which are the digits of d: zeros in front of the digits, one byte to a level, and none at the end. Without levels there are
-- no decimals, whatever d is: the number is cut.
unfoldable pub decimals : ℕ → ℕ → List ℕ
decimals zero d = []
decimals (suc p) d = without_zeros (padded (suc p) (long_natural d))

-- decimals with zeros behind them, to e bytes
abbrev pub filled_up : ℕ → List ℕ → List ℕ
filled_up e t = t ++ replicate (e - length t) nought

-- the point in front of the decimals, where there are any
abbrev pub pointed : List ℕ → List ℕ
pointed [] = []
pointed (c ∷ t) = point ∷ c ∷ t

-- the whole part with its sign
abbrev pub front : Bool → ℕ → List ℕ
front s w = signed_digits s 19 w

-- sign, whole part, point, decimals, and zeros to e decimals
abbrev pub composed : Bool → ℕ → List ℕ → ℕ → List ℕ
composed s w t e = front s w ++ pointed (filled_up e t)

-- ---- labels
-- x with p levels. Where rounding makes a whole one of the decimals, that one is carried into the whole part, and nothing is left of them.
unfoldable pub shown : Float → ℕ → ℕ → List ℕ
shown x p e =
    cond (fills_up x p) (composed (sign_of x) (whole_part x + 1) [] e)
    (composed (sign_of x) (whole_part x) (decimals p (decimals_of x p)) e)

abbrev pub shown_of : Shortened → ℕ → List ℕ
shown_of r e = shown r.value r.levels e

-- plotters' text of n: what n is shortened to with h levels, and zeros until there are e decimals
unfoldable pub plotters_text : Float → ℕ → ℕ → List ℕ
plotters_text n h e = shown_of (shorten h n (tolerance h)) e

-- ---- 02 (b): no minus before zero
-- a digit from 1 to 9
abbrev pub is_nonzero : ℕ → Bool
is_nonzero c = ltb nought c && leb c (digit 9)

-- a text without such a digit: its digits are zeros, all of them
abbrev pub all_zero : List ℕ → Bool
all_zero t = every (λ c. not (is_nonzero c)) t

-- a text that begins with a minus sign
abbrev pub has_minus : List ℕ → Bool
has_minus [] = false
has_minus (c ∷ t) = eqb c minus

-- a text without the minus sign that it begins with, if it does
abbrev pub without_minus : List ℕ → List ℕ
without_minus t = cond (has_minus t) (drop 1 t) t

-- a text whose digits are all zero carries no minus sign; any other is the text that it was
unfoldable pub zero_unsigned : List ℕ → List ℕ
zero_unsigned t = cond (all_zero t) (without_minus t) t

-- the label of n: plotters' text, without a minus sign where it shows nothing but zeros
unfoldable pub label_of : Float → ℕ → ℕ → List ℕ
label_of n h e = zero_unsigned (plotters_text n h e)
