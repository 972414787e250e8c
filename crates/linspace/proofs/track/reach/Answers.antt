use Rattle.std.proofs.Common.{arith}
use Rattle.linspace.proofs.Tracks.{along_starts, along_on}
use Rattle.linspace.proofs.track.reach.Goals as goal

pub loop-n-init : goal.loop-n-init
loop-n-init c = let s = c.args.s in along_starts _ s.b s.d s.a c.track_at-t.result (rw c.rises-rises.ensures at c.track_at-t.ensures)

pub loop-n-preserved : goal.loop-n-preserved
loop-n-preserved c = along_on _ _ _ c.loop-n.t c.step_on-t.result c.loop-n.invariant (omega arith) c.if-not-t.false c.step_on-t.ensures
