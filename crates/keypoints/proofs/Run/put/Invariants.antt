use Rattle.std.proofs.Common.{◌≡◌, ◌-◌, length, take, drop}
use Rattle.keypoints.specs.Marks.{marks_from}
use Rattle.keypoints.proofs.Run.put.Given as goal

abbrev pub invariant-loop-mark : goal.invariant-loop-mark
invariant-loop-mark l = record {
  long : length l.mark-items ≡ l.n;
  written : take l.mark-index l.mark-items ≡ take l.mark-index (marks_from l.self 2001 l.x);
  left : drop l.mark-index (marks_from l.self 2001 l.x) ≡ marks_from l.self (2001 - l.mark-index) l.y;
}
