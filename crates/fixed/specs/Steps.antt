-- What private functions promise on the way: no part of the rules. Assumes nothing.
use Rattle.std.specs.Prelude.{ℕ, cond, List, ℤ}
use Rattle.ranged1d.specs.Answer.{Answer, given, none}
use Rattle.fixed.specs.Fixed.{number_in, is_printed}

-- the number, where it is admitted and is printed as this text
abbrev pub printed : ℕ → List ℕ → Answer ℤ
printed f s = cond (is_printed f s) (given (number_in s)) none
