-- What `print` and `print_scientific` answer, on every input, and what the bytes lent to them hold afterwards: the labels of 01 "Whole reading, segments,
-- real labels" and of 02 (n) with the refusals of 01 "Why a call stops" and of 02 (n). Assumes nothing.
use Rattle.std.specs.Prelude.{Bool, false, not, ◌&&◌, List, [], ◌∷◌, ℕ, ◌*◌, ◌^◌, ltb, leb, length, Float}
use Rattle.std.specs.Float.{nan, inf, fin}
use Rattle.std.specs.Float.Ieee.{up, down, lt, eq}
use Rattle.ranged1d.specs.Answer.{Answer, given, ◌when◌, lowest, written, Reason}
use Rattle.decades.specs.Powers.{power}
use Rattle.float.specs.Text.{size_of, label_of}
use Rattle.float.specs.Scientific.{zero_float, scientific_of}

-- a number that has a label: it is finite, and its size is below 2 ^ 53
unfoldable pub printable : Float → Bool
printable nan = false
printable (inf s) = false
printable (fin s m e) = ltb (m * up e) (2 ^ 53 * down e)

-- `print`: 11 where n has no label, 12 where more than 10 decimals are allowed or more than 20 are asked for, 13 where the lent bytes are too few; else
-- the number of the label's bytes, which stand at the start of the lent ones
abbrev pub print_reasons : Float → ℕ → ℕ → List ℕ → List Reason
print_reasons n h e old = 11 when not (printable n) ∷ 12 when not (leb h 10 && leb e 20) ∷ 13 when ltb (length old) (length (label_of n h e)) ∷ []

unfoldable pub label_print : Float → ℕ → ℕ → List ℕ → Answer ℕ × List ℕ
label_print n h e old = written (lowest (print_reasons n h e old) (given (length (label_of n h e)))) (label_of n h e) old

-- smaller in size than the table's first power, 10 ^ −307, and not zero
unfoldable pub too_small : Float → Bool
too_small n = not (eq n zero_float) && lt (size_of n) (power 0)

-- `print_scientific`: the reasons of `print`, with 28 in front of 13 where n is too small, and the scientific label in place of the plain one
abbrev pub scientific_reasons : Float → ℕ → ℕ → List ℕ → List Reason
scientific_reasons n h e old =
    11 when not (printable n)
    ∷ 12 when not (leb h 10 && leb e 20)
    ∷ 28 when too_small n
    ∷ 13 when ltb (length old) (length (scientific_of n h e))
    ∷ []

unfoldable pub label_scientific : Float → ℕ → ℕ → List ℕ → Answer ℕ × List ℕ
label_scientific n h e old = written (lowest (scientific_reasons n h e old) (given (length (scientific_of n h e)))) (scientific_of n h e) old
