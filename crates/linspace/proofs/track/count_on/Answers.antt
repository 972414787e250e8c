use Rattle.std.proofs.Common.{◌∙◌, ◌≡◌, arith}
use Rattle.linspace.proofs.Tracks.{counting_on, counting_ends, counting_full}
use Rattle.linspace.proofs.track.count_on.Goals as goal

pub returns-then-not-t : goal.returns-then-not-t
returns-then-not-t c = counting_ends _ _ _ c.loop-n.t c.loop-n.invariant c.if-not-t.true

pub loop-n-preserved : goal.loop-n-preserved
loop-n-preserved c = counting_on _ _ _ c.loop-n.t c.loop-n.invariant c.step_on-t.result (omega arith) c.if-not-t.false c.step_on-t.ensures

pub returns : goal.returns
returns c =
    let end : 65537 ≡ c.loop-n.n = omega arith in
    end ∙ counting_full _ _ _ c.loop-n.t c.loop-n.invariant (omega arith)
