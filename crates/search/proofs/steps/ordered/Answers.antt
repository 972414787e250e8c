-- The list is in order where what is left of it is.
use Rattle.search.specs.Lists.{toward}
use Rattle.search.proofs.Lists.{run_on, run_stop}
use Rattle.std.proofs.Common.{sym, ◌∙◌}
use Rattle.search.proofs.steps.ordered.Goals as goal

pub returns-then-not-in_line : goal.returns-then-not-in_line
returns-then-not-in_line g c =
    run_stop (toward c.args.rises g.T.Entry.numbers.less) c.loop-rest.rest.now 256 c.loop-rest-test.true (sym c.in_line.ensures ∙ c.if-not-in_line.true) c.loop-rest.invariant

pub loop-rest-preserved : goal.loop-rest-preserved
loop-rest-preserved g c =
    run_on (toward c.args.rises g.T.Entry.numbers.less) c.loop-rest.rest.now 256 c.loop-rest-test.true (sym c.in_line.ensures ∙ c.if-not-in_line.false) c.loop-rest.invariant
