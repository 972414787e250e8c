use Rattle.decimal.proofs.LastDigits.{Put}
use Rattle.decimal.proofs.put_last_digits.Given as goal

abbrev pub invariant-loop-i : goal.invariant-loop-i
invariant-loop-i l = Put l.initial.out l.n l.i l.out l.rest
