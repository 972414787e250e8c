use Rattle.std.proofs.Common.{◌≡◌, ◌++◌, ℤ, drop}
use Rattle.numeric.specs.Marks.{list_of}
use Rattle.numeric.specs.Calls.{Computes, element}
use Rattle.numeric.proofs.fill_marks.Given as goal

abbrev pub invariant-loop-k : goal.invariant-loop-k
invariant-loop-k g l =
    (f : ℤ → _) → Computes (goal.F-post g l.mark) f → l.out ≡ list_of (λ j. f (element l.first l.step j)) l.k ++ drop l.k l.initial.out
