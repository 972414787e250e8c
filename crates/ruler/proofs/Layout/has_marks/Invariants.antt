use Rattle.std.proofs.Common.{◌≡◌, ℕ, ◌<◌, [], get_or}
use Rattle.numeric.specs.Calls.{element}
use Rattle.ruler.specs.Bytes.{laid}
use Rattle.ruler.specs.Steps.{mark_of}
use Rattle.ruler.proofs.Layout.has_marks.Given as goal

abbrev pub invariant-loop-k : goal.invariant-loop-k
invariant-loop-k l = (i : ℕ) → i < l.k → get_or l.records i [] ≡ laid (mark_of l.self.drawing.draft (element l.self.points.first l.self.points.step i))
