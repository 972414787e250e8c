-- `ruler::Drawing::unknown_twist` what the search leaves.
use Rattle.std.proofs.Common.{sym, ◌∙◌, arith}
use Rattle.ruler.proofs.Reader.{laid_out, long_out}
use Rattle.ruler.proofs.Moving.{no_twist_refused, no_twist_short, no_twist_unknown}
use Rattle.ruler.proofs.Drawing.unknown_twist.Goals as goal

pub returns-then-room-size : goal.returns-then-room-size
returns-then-room-size c =
    let e = c.in-Ok.ensures {u = tt} in
    let size = c.size-size.ensures ∙ long_out e c.in-Ok.layout.points in
    sym (no_twist_short _ _ _ _ _ _ (laid_out e c.in-Ok.layout.planned) (omega (arith, c.if-room-size.true, size)))

pub returns-in-Err : goal.returns-in-Err
returns-in-Err c = sym (no_twist_refused _ _ _ _ _ _ (c.in-Err.ensures {u = tt}))

pub returns-else-room-size : goal.returns-else-room-size
returns-else-room-size c =
    let e = c.in-Ok.ensures {u = tt} in
    let size = c.size-size.ensures ∙ long_out e c.in-Ok.layout.points in
    sym (no_twist_unknown _ _ _ _ _ _ (laid_out e c.in-Ok.layout.planned) (omega (arith, c.if-room-size.false, size)))
