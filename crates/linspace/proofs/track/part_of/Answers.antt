use Rattle.std.proofs.Common.{arith}
use Rattle.linspace.proofs.Shares.{share_on, share-past, share-between}
use Rattle.linspace.proofs.track.part_of.Goals as goal

pub returns-then-far-eq0 : goal.returns-then-far-eq0
returns-then-far-eq0 c = rw c.if-far-eq0.true (share_on c.args.whole)

pub returns-then-whole-far : goal.returns-then-whole-far
returns-then-whole-far c = share-past c.args.far c.args.whole (omega arith) c.if-whole-far.true

pub returns : goal.returns
returns c = share-between c.args.far c.args.whole c.requires.whole_bound c.if-whole-far.false
