use Rattle.std.proofs.Common.{refl, ap, length}
use lib.Ieee.{nan}
use Rattle.linspace.specs.RealSteps.{plus_step}
use Rattle.linspace.proofs.Walks.{after_none, after_turn}
use Rattle.linspace.proofs.Runs.{put_behind, all_behind}
use Rattle.linspace.proofs.lanes.put_entries.Goals as goal

pub loop-z-init : goal.loop-z-init
loop-z-init c = record { written = refl; last = after_none (plus_step c.args.d) c.args.by c.args.x }

pub loop-z-preserved : goal.loop-z-preserved
loop-z-preserved c =
    let s = c.args in
    let at = c.loop-z in
    record {
      written = put_behind (plus_step s.d) s.by s.x nan at.z-index c.in-Some.rest.now at.rest c.loop-z-test.true at.invariant.written at.invariant.last c.advance-y.ensures;
      last = after_turn (plus_step s.d) s.by at.z-index s.x c.advance-y.ensures at.invariant.last;
    }

pub returns : goal.returns
returns c =
    let s = c.args in
    let at = c.loop-z in
    all_behind (plus_step s.d) s.by s.x c.in-Some.rest.now at.rest s.out.now at.z-index c.loop-z-test.false at.auto.z-index-end at.invariant.written (ap length c.in-Some.ensures.cases.0)
