use Rattle.std.proofs.Common.{refl}
use Rattle.linspace.specs.RealSteps.{plus_step, after}
use Rattle.linspace.proofs.Walks.{after_step}
use Rattle.linspace.proofs.track.advance.Goals as goal

pub loop-i-init : goal.loop-i-init
unfolding after
loop-i-init c = refl

pub loop-i-preserved : goal.loop-i-preserved
loop-i-preserved c = after_step (plus_step c.args.d) c.loop-i._i c.args.x c.loop-i.invariant
