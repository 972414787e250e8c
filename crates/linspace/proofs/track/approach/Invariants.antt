use Rattle.std.specs.Float.Ieee.{lt}
use Rattle.linspace.proofs.Tracks.{Parting}
use Rattle.linspace.proofs.track.approach.Given as goal

abbrev pub invariant-loop-n : goal.invariant-loop-n
invariant-loop-n l = let s = l.fn.s in Parting (lt s.a s.b) s.b s.d l.t s.a l.n l.left l.y
