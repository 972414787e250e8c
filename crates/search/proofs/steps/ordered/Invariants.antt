use Rattle.std.proofs.Common.{◌≡◌, length}
use Rattle.search.specs.Lists.{toward, ascends}
use Rattle.search.proofs.steps.ordered.Given as goal

abbrev pub invariant-loop-rest : goal.invariant-loop-rest
invariant-loop-rest g l = ascends (toward l.rises g.T.Entry.numbers.less) l.list ≡ ascends (toward l.rises g.T.Entry.numbers.less) l.rest

abbrev pub decreases-loop-rest : goal.decreases-loop-rest
decreases-loop-rest g l = length l.rest
