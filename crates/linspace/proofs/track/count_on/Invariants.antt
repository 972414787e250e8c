use Rattle.std.specs.Float.Ieee.{lt}
use Rattle.linspace.proofs.Tracks.{Counting}
use Rattle.linspace.proofs.track.count_on.Given as goal

abbrev pub invariant-loop-n : goal.invariant-loop-n
invariant-loop-n l = let s = l.fn.s in Counting (lt s.a s.b) s.b s.d l.fn.x l.fn.k l.n l.t
