use Rattle.std.proofs.Common.{sym, ap, ◌∙◌, List}
use Rattle.ranged1d.specs.Answer.{Answer, refused, list_written}
use Rattle.linspace.specs.List.{whole}
use Rattle.linspace.specs.Calls.{marks_of, step_key_points}
use Rattle.linspace.proofs.Rules.{handed, same-axis, points_refused, points_none, points_stopped, points_is}
use Rattle.linspace.proofs.wholes.Linspacei32.key_points.Goals as goal
use Rattle.std.proofs.Common.{ℕ}
use lib.IntN.{ℤ, pos}

pub returns-in_err-s : goal.returns-in_err-s
returns-in_err-s c =
    let i = c.args.self in
    let e = c.in_err-s.ensures in
    ap (λ (r : Answer ℕ). (r, c.args.out.now)) (handed c.from_residual.result c.in_err-s.field-0.0 c.from_residual.ensures ∙ ap refused e.0)
    ∙ points_refused whole i.inner.0 i.inner.1 i.step e.1 c.args.m c.args.out.now

pub returns-then-lacks_mark : goal.returns-then-lacks_mark
returns-then-lacks_mark c =
    let s = c.in_ok-s.s in
    points_none whole s.a s.b s.d s.admitted c.args.m c.args.out.now (sym c.lacks_mark.ensures ∙ c.if-lacks_mark.true)
    ∙ same-axis (λ (a b d : ℤ). step_key_points whole a b d c.args.m c.args.out.now) c.in_ok-s.ensures

pub returns-in_err-l : goal.returns-in_err-l
returns-in_err-l c =
    let s = c.in_ok-s.s in
    ap (λ (r : Answer ℕ). (r, c.args.out.now)) (handed c.from_residual-in_err-l.result c.in_err-l.field-0.0 c.from_residual-in_err-l.ensures)
    ∙ points_stopped whole s.a s.b s.d s.admitted c.args.m c.args.out.now (sym c.lacks_mark.ensures ∙ c.if-lacks_mark.false) c.in_err-l.ensures
    ∙ same-axis (λ (a b d : ℤ). step_key_points whole a b d c.args.m c.args.out.now) c.in_ok-s.ensures

pub returns : goal.returns
returns c =
    let s = c.in_ok-s.s in
    let e = c.in_ok-l.ensures in
    c.put_marks.ensures
    ∙ ap (λ (l : List ℤ). list_written (marks_of (pos 0) l c.args.m) c.args.out.now) (sym e.1)
    ∙ points_is whole s.a s.b s.d s.admitted c.args.m c.args.out.now (sym c.lacks_mark.ensures ∙ c.if-lacks_mark.false) e.0
    ∙ same-axis (λ (a b d : ℤ). step_key_points whole a b d c.args.m c.args.out.now) c.in_ok-s.ensures
