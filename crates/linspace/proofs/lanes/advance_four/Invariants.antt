use Rattle.std.proofs.Common.{◌≡◌}
use Rattle.linspace.specs.RealSteps.{plus_step, after}
use Rattle.linspace.proofs.lanes.advance_four.Given as goal

abbrev pub invariant-loop-i : goal.invariant-loop-i
invariant-loop-i l =
    let next = plus_step l.d in
    let q = l.initial.x in
    (l.x.x0 ≡ after next l._i q.x0) × (l.x.x1 ≡ after next l._i q.x1) × (l.x.x2 ≡ after next l._i q.x2) × (l.x.x3 ≡ after next l._i q.x3)
