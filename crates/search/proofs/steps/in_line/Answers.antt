-- ok says whether the first k entries are in order.
use Rattle.std.proofs.Common.{◌-◌, drop, length-drop, arith}
use Rattle.search.specs.Lists.{toward}
use Rattle.search.proofs.Lists.{walk_on, walk_done}
use Rattle.search.proofs.steps.in_line.Goals as goal

pub loop-k-preserved : goal.loop-k-preserved
loop-k-preserved g c =
    let lt = toward c.args.rises g.T.Entry.numbers.less in
    rw c.precedes-ok.ensures (walk_on lt c.loop-k.ok c.args.list.now c.loop-k.k c.index-list-k.result c.index-list-k-in-loop-k.result (omega (arith, c.loop-k.auto.k)) c.loop-k-test.true c.index-list-k.is c.index-list-k-in-loop-k.is c.loop-k.invariant)

pub returns : goal.returns
returns g c =
    let l = c.args.list.now in
    walk_done (toward c.args.rises g.T.Entry.numbers.less) c.loop-k.ok (drop (c.loop-k.k - 1) l) (omega (arith, length-drop (c.loop-k.k - 1) l, c.loop-k-test.false)) c.loop-k.invariant
