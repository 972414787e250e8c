use Rattle.std.proofs.Common.{◌≡◌, ◌++◌, ◌*◌, drop}
use Rattle.numeric.specs.Marks.{list_of}
use Rattle.numeric.specs.Calls.{element}
use Rattle.linspace.proofs.wholes.Entries.put_spaced.Given as goal

abbrev pub invariant-loop-k : goal.invariant-loop-k
invariant-loop-k l = let s = l.self.s in l.out ≡ list_of (λ k. element s.a s.d (k * l.fn.p.by)) l.k ++ drop l.k l.initial.out
