use Rattle.std.proofs.Common.{refl}
use Rattle.linspace.specs.RealSteps.{plus_step, after}
use Rattle.linspace.proofs.Walks.{after_step}
use Rattle.linspace.proofs.lanes.advance_four.Goals as goal

pub loop-i-init : goal.loop-i-init
unfolding after
loop-i-init c = (refl, refl, refl, refl)

pub loop-i-preserved : goal.loop-i-preserved
loop-i-preserved c =
    let next = plus_step c.args.d in
    let i = c.loop-i._i in
    let q = c.args.q in
    let x = c.loop-i.invariant in
    (after_step next i q.x0 x.0, after_step next i q.x1 x.1, after_step next i q.x2 x.2, after_step next i q.x3 x.3)
