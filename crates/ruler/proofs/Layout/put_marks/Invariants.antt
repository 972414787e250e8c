use Rattle.std.proofs.Common.{◌≡◌, ◌*◌, ◌++◌, drop}
use Rattle.ruler.specs.Steps.{marks_laid}
use Rattle.ruler.proofs.Layout.put_marks.Given as goal

abbrev pub invariant-loop-k : goal.invariant-loop-k
invariant-loop-k l = l.out ≡ marks_laid l.self.drawing.draft l.self.points l.k ++ drop (20 * l.k) l.initial.out
