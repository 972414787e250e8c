-- `ruler::downgrade` what the search leaves.
use Rattle.std.proofs.Common.{ℕ, List, [], sym, ap, ◌∙◌, arith}
use Rattle.std.proofs.lemmas.Result.{err_from_is_err_and}
use Rattle.ranged1d.specs.Answer.{list_written}
use Rattle.ruler.specs.Bytes.{kind_byte}
use Rattle.ruler.specs.Steps.{form_of}
use Rattle.ruler.proofs.Reader.{known_layout, known_none, no_ruler_14}
use Rattle.ruler.proofs.Moving.{moved, twisted_is, long_old, long_twisted, downgraded_is, downgraded_long, z_is, not_twisted, downgrade_14, downgrade_moves, downgrade_short, downgrade_16}
use Rattle.ruler.proofs.downgrade.Goals as goal

pub returns-in_err-drawing : goal.returns-in_err-drawing
returns-in_err-drawing c =
    let r = err_from_is_err_and c.from_residual.result c.from_residual.ensures.1 in
    let none = c.in_err-drawing.ensures.ok_part in
    let l = c.args.bytes.now in
    let old = c.args.out.now in
    rw (r.1, r.2, no_ruler_14 c.in_err-drawing.ensures.value none) (sym (downgrade_14 l old (not_twisted l old (known_none l c.examine.ensures none))))

pub put_moved-requires-clause-in_bounds : goal.put_moved-requires-clause-in_bounds
put_moved-requires-clause-in_bounds c = let known = known_layout c.examine.ensures c.in_ok-drawing.ensures.ok_part in (omega arith, long_twisted known c.in-S.is)

pub overflow_sub-bytes : goal.overflow_sub-bytes
overflow_sub-bytes c = let known = known_layout c.examine.ensures c.in_ok-drawing.ensures.ok_part in omega (arith, long_old known)

pub returns-then-out-bytes : goal.returns-then-out-bytes
returns-then-out-bytes c =
    let known = known_layout c.examine.ensures c.in_ok-drawing.ensures.ok_part in
    sym (downgrade_short c.args.bytes.now c.args.out.now (twisted_is known c.in-Z.is) (downgraded_long known c.in-Z.is) c.if-out-bytes.true)

pub returns-in-Plain : goal.returns-in-Plain
returns-in-Plain c = let known = known_layout c.examine.ensures c.in_ok-drawing.ensures.ok_part in sym (downgrade_14 c.args.bytes.now c.args.out.now (twisted_is known c.in-Plain.is))

pub returns-in-S : goal.returns-in-S
returns-in-S c =
    let known = known_layout c.examine.ensures c.in_ok-drawing.ensures.ok_part in
    let l = c.args.bytes.now in
    let old = c.args.out.now in
    c.put_moved.ensures
    ∙ ap (λ (k : ℕ). list_written (moved k l [] 26) old) (c.kind.ensures ∙ ap kind_byte (c.form-back.ensures ∙ ap form_of c.drawing.ensures))
    ∙ ap (λ (x : List ℕ). list_written x old) (downgraded_is known)
    ∙ sym (downgrade_moves l old (twisted_is known c.in-S.is) (z_is known c.in-S.is))

pub returns-else-out-bytes : goal.returns-else-out-bytes
returns-else-out-bytes c =
    let known = known_layout c.examine.ensures c.in_ok-drawing.ensures.ok_part in
    sym (downgrade_16 c.args.bytes.now c.args.out.now (twisted_is known c.in-Z.is) (downgraded_long known c.in-Z.is) c.if-out-bytes.false (z_is known c.in-Z.is))
