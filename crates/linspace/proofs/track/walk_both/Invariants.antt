use Rattle.std.specs.Float.Ieee.{lt}
use Rattle.linspace.proofs.Tracks.{Trailing}
use Rattle.linspace.proofs.track.walk_both.Given as goal

abbrev pub invariant-loop-n : goal.invariant-loop-n
invariant-loop-n l = let s = l.s in Trailing (lt s.a s.b) s.b s.d s.a l.share l.n l.t l.y
