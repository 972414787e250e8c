use Rattle.std.proofs.Common.{◌≡◌, ◌&&◌, ◌-◌, drop}
use Rattle.search.specs.Lists.{toward, ascends}
use Rattle.search.proofs.steps.in_line.Given as goal

abbrev pub invariant-loop-k : goal.invariant-loop-k
invariant-loop-k g l = ascends (toward l.rises g.T.Entry.numbers.less) l.list ≡ (l.ok && ascends (toward l.rises g.T.Entry.numbers.less) (drop (l.k - 1) l.list))
