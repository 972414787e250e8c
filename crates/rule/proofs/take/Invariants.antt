use Rattle.std.proofs.Common.{length}
use Rattle.rule.proofs.take.Given as goal

abbrev pub decreases-loop-n : goal.decreases-loop-n
decreases-loop-n g l = length l.rest
