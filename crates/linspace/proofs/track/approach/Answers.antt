use Rattle.std.specs.Float.Ieee.{lt}
use Rattle.linspace.proofs.Tracks.{parting_starts, parting_on}
use Rattle.linspace.proofs.track.approach.Goals as goal

pub loop-n-init : goal.loop-n-init
loop-n-init c =
    let s = c.args.s in
    parting_starts (lt s.a s.b) s.b s.d c.args.t s.a c.track_at-y.result (rw (c.nearer.ensures, c.rises-rises.ensures) at c.track_at-y.ensures)

pub loop-n-preserved : goal.loop-n-preserved
loop-n-preserved c =
    let s = c.args.s in
    parting_on (lt s.a s.b) s.b s.d c.args.t c.requires.b_value c.requires.t_value c.loop-n.y c.loop-n.invariant c.step_on-y.result c.loop-n-test.true c.if-not-y.false c.step_on-y.ensures
    (rw c.rises-rises.ensures at c.head-left.ensures)
