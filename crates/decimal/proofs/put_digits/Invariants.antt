use Prim.Native.Nat.{◌-◌, ◌≤◌}
use lib.ListN.{length}
use Rattle.decimal.proofs.Digits.{Spelt}
use Rattle.decimal.proofs.put_digits.Given as goal

abbrev pub invariant-loop-n : goal.invariant-loop-n
invariant-loop-n l = (2 ≤ length l.initial.t) × Spelt (length l.initial.t - 2) l.size l.i l.n l.t

abbrev pub decreases-loop-n : goal.decreases-loop-n
decreases-loop-n l = l.n
