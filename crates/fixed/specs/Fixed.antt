-- 02 (k): a whole number whose last f digits are taken as decimals, as a text, and the reader of such texts. A text is a list of bytes. f is a variable
-- throughout: no rule has a case for each f, but that 0 has no point. Assumes nothing.
use Rattle.std.specs.Prelude.{ℕ, zero, suc, ◌/◌, ◌^◌, Bool, cond, not, ◌&&◌, List, [], ◌∷◌, ◌++◌, ltb, eqb, ℤ, pos, negsuc, neg_ℤ, length, get_or, drop}
use Rattle.ranged1d.specs.Answer.{Answer, given, Reason, ◌when◌, lowest, written}
use Rattle.ranged1d.specs.Admitted.{whole_admitted}
use Rattle.decimal.specs.Print.{minus, point, natural}
unfoldable pub use Rattle.decimal.specs.Print.{last_digits}
use Rattle.decimal.specs.Read.{value_of, same_bytes}

-- ---- the text
-- behind the whole part: a point and f digits; nothing where f is 0
unfoldable pub fraction : ℕ → ℕ → List ℕ
fraction zero n = []
fraction (suc f) n = point ∷ last_digits (suc f) n

-- the whole part is the number without its last f digits, in base ten as it is printed elsewhere: a digit at least, and no zero in front of others
unfoldable pub size_text : ℕ → ℕ → List ℕ
size_text f n = natural (n / 10 ^ f) ++ fraction f n

-- a minus sign in front of a negative number and of no other
abbrev pub fixed_text : ℕ → ℤ → List ℕ
fixed_text f (pos n) = size_text f n
fixed_text f (negsuc n) = minus ∷ size_text f (suc n)

-- ---- `print`: 1 for a number that is not admitted, 24 for more than 6 decimals, 13 for too few lent bytes; else how many bytes the text has, and the
-- text at the start of them
abbrev pub fixed_reasons : ℤ → ℕ → List ℕ → List Reason
fixed_reasons x f old = 1 when not (whole_admitted x) ∷ 24 when ltb 6 f ∷ 13 when ltb (length old) (length (fixed_text f x)) ∷ []

unfoldable pub fixed_print : ℤ → ℕ → List ℕ → Answer ℕ × List ℕ
fixed_print x f old = written (lowest (fixed_reasons x f old) (given (length (fixed_text f x)))) (fixed_text f x) old

-- ---- the number that a text stands for, if it is one that is printed: what its digits make without the point, negated behind a minus sign
unfoldable pub unpointed : List ℕ → List ℕ
unpointed [] = []
unpointed (c ∷ cs) = cond (eqb c point) (unpointed cs) (c ∷ unpointed cs)

unfoldable pub number_in : List ℕ → ℤ
number_in s = cond (eqb (get_or s 0 0) minus) (neg_ℤ (pos (value_of 0 (unpointed (drop 1 s))))) (pos (value_of 0 (unpointed s)))

-- It is one where that number is admitted and is printed as this very text. `Undone` of Theorems says that these are all the texts that are printed of
-- admitted numbers, and no others.
abbrev pub is_printed : ℕ → List ℕ → Bool
is_printed f s = whole_admitted (number_in s) && same_bytes s (fixed_text f (number_in s))

-- ---- `read`: 24 for more than 6 decimals, 25 for a text that is never printed; else the number
abbrev pub fixed_read_reasons : List ℕ → ℕ → List Reason
fixed_read_reasons s f = 24 when ltb 6 f ∷ 25 when not (is_printed f s) ∷ []

unfoldable pub fixed_read : List ℕ → ℕ → Answer ℤ
fixed_read s f = lowest (fixed_read_reasons s f) (given (number_in s))
