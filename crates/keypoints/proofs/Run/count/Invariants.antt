use Rattle.std.proofs.Common.{◌≡◌, ◌+◌, ◌-◌, length}
use Rattle.keypoints.specs.Marks.{marks_from}
use Rattle.keypoints.proofs.Run.count.Given as goal

abbrev pub invariant-loop-k : goal.invariant-loop-k
invariant-loop-k l = length (marks_from l.self 2001 l.x) ≡ l.k + length (marks_from l.self (2001 - l.k) l.y)
