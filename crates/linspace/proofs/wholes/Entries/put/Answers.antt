use Rattle.std.proofs.Common.{ap₂, ◌∙◌, List, arith, set}
use lib.IntN.{ℤ, pos}
use Rattle.numeric.specs.Calls.{element}
use Rattle.numeric.proofs.Lists.{write_more}
use Rattle.linspace.proofs.WholeRules.{next_fits}
use Rattle.linspace.proofs.wholes.Entries.put.Goals as goal

pub overflow_add-x : goal.overflow_add-x
overflow_add-x c = (next_fits c.args.self.known c.loop-y.y-index (omega arith) c.loop-y.invariant.next).sum

pub loop-y-preserved : goal.loop-y-preserved
loop-y-preserved c =
    let s = c.args.self.s in
    let at = c.loop-y in
    record {
      written = ap₂ (λ (l : List ℤ) (z : ℤ). set l at.y-index z) at.invariant.written at.invariant.next ∙ write_more (element s.a s.d) (pos 0) at.y-index c.args.out.now c.loop-y-test.true;
      next = (next_fits c.args.self.known at.y-index (omega arith) at.invariant.next).is;
    }
