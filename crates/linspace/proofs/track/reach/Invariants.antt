use Rattle.std.specs.Float.Ieee.{lt}
use Rattle.linspace.proofs.Tracks.{Along}
use Rattle.linspace.proofs.track.reach.Given as goal

abbrev pub invariant-loop-n : goal.invariant-loop-n
invariant-loop-n l = let s = l.fn.s in Along (lt s.a s.b) s.b s.d s.a l.n l.t
