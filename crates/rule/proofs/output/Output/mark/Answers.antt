-- `rule::output::Output::mark` what the search leaves.
use Rattle.std.proofs.Common.{arith}
use Rattle.line.proofs.Marks.{mark-fits}
use Rattle.rule.proofs.output.Output.mark.Goals as goal

pub overflow_add-self : goal.overflow_add-self
overflow_add-self g c = let fits = mark-fits _ _ _ _ _ c.put_mark.ensures in omega (arith, c.in_ok-make_room.ensures, g.N.fits)

pub invariant_of-self-clause-within : goal.invariant_of-self-clause-within
invariant_of-self-clause-within g c = let fits = mark-fits _ _ _ _ _ c.put_mark.ensures in omega (arith, c.in_ok-make_room.ensures)
