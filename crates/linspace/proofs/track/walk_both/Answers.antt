use Rattle.std.proofs.Common.{◌≡◌, arith}
use Rattle.std.specs.Float.Ieee.{lt}
use Rattle.linspace.proofs.Tracks.{trailing_starts, trailing_on, trailing_ends, trailing_full}
use Rattle.linspace.proofs.track.walk_both.Goals as goal

pub loop-n-init : goal.loop-n-init
loop-n-init c = let s = c.args.s in trailing_starts (lt s.a s.b) s.b s.d s.a c.args.share c.track_at-t.result (rw c.rises.ensures at c.track_at-t.ensures)

pub returns-then-not-t : goal.returns-then-not-t
returns-then-not-t c = let s = c.args.s in trailing_ends (lt s.a s.b) s.b s.d s.a c.args.share c.loop-n.t c.loop-n.y c.loop-n.invariant c.if-not-t.true

pub loop-n-preserved : goal.loop-n-preserved
loop-n-preserved c =
    let s = c.args.s in
    trailing_on (lt s.a s.b) s.b s.d s.a c.args.share c.loop-n.t c.loop-n.y c.loop-n.invariant c.step_on-t.result c.trail_on-y.result c.loop-n-test.true c.if-not-t.false c.step_on-t.ensures c.trail_on-y.ensures

pub returns : goal.returns
returns c =
    let s = c.args.s in
    let end : 65537 ≡ c.loop-n.n = omega arith in
    rw end (trailing_full (lt s.a s.b) s.b s.d s.a c.args.share c.loop-n.t c.loop-n.y c.loop-n.invariant (omega arith))
