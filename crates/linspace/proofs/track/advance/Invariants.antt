use Rattle.std.proofs.Common.{◌≡◌}
use Rattle.linspace.specs.RealSteps.{plus_step, after}
use Rattle.linspace.proofs.track.advance.Given as goal

abbrev pub invariant-loop-i : goal.invariant-loop-i
invariant-loop-i l = l.y ≡ after (plus_step l.d) l._i l.x
