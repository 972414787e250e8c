use Rattle.std.proofs.Common.{◌≡◌, ◌++◌, drop}
use Rattle.numeric.specs.Marks.{list_of}
use Rattle.numeric.specs.Calls.{element}
use Rattle.linspace.proofs.wholes.Entries.put.Given as goal

abbrev pub invariant-loop-y : goal.invariant-loop-y
invariant-loop-y l =
    let s = l.self.s in record {
      written : l.out ≡ list_of (element s.a s.d) l.y-index ++ drop l.y-index l.initial.out;
      next : l.x ≡ element s.a s.d l.y-index;
    }
