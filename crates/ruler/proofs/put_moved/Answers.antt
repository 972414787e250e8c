-- `ruler::put_moved` what the search leaves.
use Rattle.std.proofs.Common.{◌∙◌, arith, length-drop}
use Rattle.ranged1d.proofs.Pieces.{rest_is}
use Rattle.ruler.proofs.Moving.{moved, moved_long, moved_put, list_short, list_fits}
use Rattle.ruler.proofs.put_moved.Goals as goal

pub returns-then-out-size : goal.returns-then-out-size
returns-then-out-size c =
    let l = c.args.l.now in
    let r = c.args.rest in
    let t = c.args.twist.now in
    let bounds = c.requires.in_bounds in
    list_short (moved c.args.kind l t r) c.args.out.now (moved_long c.args.kind l t r bounds.0 bounds.1) (rw (rest_is r l, length-drop r l) at c.if-out-size.true)

pub returns : goal.returns
returns c =
    let l = c.args.l.now in
    let r = c.args.rest in
    let t = c.args.twist.now in
    let bounds = c.requires.in_bounds in
    let fits = rw (rest_is r l, length-drop r l) at c.if-out-size.false in
    rw (rest_is r l, length-drop r l)
    (list_fits (moved c.args.kind l t r) c.args.out.now (moved_long c.args.kind l t r bounds.0 bounds.1) fits
    (moved_put c.args.kind l t r bounds.0 bounds.1 c.args.out.now _ _ _ _ _ (omega (arith, fits)) c.copy_from_slice.ensures.after c.copy_from_slice-2.ensures.after (c.copy_from_slice-3.ensures.after ∙ rest_is r l) (omega arith) (omega arith)))
