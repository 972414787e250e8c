use Rattle.std.proofs.Common.{sym, ap, ◌∙◌, List, to_z-of_z}
use Rattle.ranged1d.specs.Answer.{refused}
use Rattle.linspace.specs.List.{whole, stepped}
use Rattle.discrete.specs.Index.{pixel_index}
use Rattle.linspace.specs.Calls.{nth, nth_of, step_reading}
use Rattle.linspace.proofs.Rules.{handed_found, same-axis, counted_by, reading-refused, reading-outside, reading_is}
use Rattle.linspace.proofs.wholes.Linspacei32.unmap.Goals as goal
use lib.IntN.{ℤ}

pub returns-in_err-s : goal.returns-in_err-s
returns-in_err-s c =
    let i = c.args.self in
    let e = c.in_err-s.ensures in
    handed_found c.from_residual.result c.in_err-s.field-0.0 c.from_residual.ensures ∙ ap refused e.0 ∙ reading-refused whole i.inner.0 i.inner.1 i.step e.1 c.args.x c.args.limit

pub returns-then-not-admits : goal.returns-then-not-admits
returns-then-not-admits c =
    let s = c.in_ok-s.s in
    reading-outside whole s.a s.b s.d s.admitted c.args.x c.args.limit (sym (rw (to_z-of_z c.ranges.x) at c.admits.ensures) ∙ c.if-not-admits.true)
    ∙ same-axis (λ (a b d : ℤ). step_reading whole a b d c.args.x c.args.limit) c.in_ok-s.ensures

pub returns-in_err-l : goal.returns-in_err-l
returns-in_err-l c =
    let s = c.in_ok-s.s in
    handed_found c.from_residual-in_err-l.result c.in_err-l.field-0.0 c.from_residual-in_err-l.ensures
    ∙ reading_is whole s.a s.b s.d s.admitted c.in_err-l.ensures c.args.x c.args.limit (sym (rw (to_z-of_z c.ranges.x) at c.admits.ensures) ∙ c.if-not-admits.false)
    ∙ same-axis (λ (a b d : ℤ). step_reading whole a b d c.args.x c.args.limit) c.in_ok-s.ensures

pub returns-in_err-k : goal.returns-in_err-k
returns-in_err-k c =
    let s = c.in_ok-s.s in
    let e = c.in_ok-l.ensures in
    let l = stepped whole s.a s.b s.d in
    let all = (counted_by whole s.a s.b s.d s.admitted e.0).all in
    handed_found c.from_residual-in_err-k.result c.in_err-k.field-0.0 c.from_residual-in_err-k.ensures
    ∙ ap (nth_of l) (rw (to_z-of_z c.ranges.x) at c.in_err-k.ensures ∙ ap (pixel_index c.args.x c.args.limit) all)
    ∙ reading_is whole s.a s.b s.d s.admitted e.0 c.args.x c.args.limit (sym (rw (to_z-of_z c.ranges.x) at c.admits.ensures) ∙ c.if-not-admits.false)
    ∙ same-axis (λ (a b d : ℤ). step_reading whole a b d c.args.x c.args.limit) c.in_ok-s.ensures

pub returns : goal.returns
returns c =
    let s = c.in_ok-s.s in
    let e = c.in_ok-l.ensures in
    let l = stepped whole s.a s.b s.d in
    let all = (counted_by whole s.a s.b s.d s.admitted e.0).all in
    c.get.ensures
    ∙ ap (λ (l : List ℤ). nth l c.in-Some.k) (sym e.1)
    ∙ ap (nth_of l) (rw (c.in-Some.is, to_z-of_z c.ranges.x) at c.in_ok-k.ensures ∙ ap (pixel_index c.args.x c.args.limit) all)
    ∙ reading_is whole s.a s.b s.d s.admitted e.0 c.args.x c.args.limit (sym (rw (to_z-of_z c.ranges.x) at c.admits.ensures) ∙ c.if-not-admits.false)
    ∙ same-axis (λ (a b d : ℤ). step_reading whole a b d c.args.x c.args.limit) c.in_ok-s.ensures

pub returns-in_default : goal.returns-in_default
returns-in_default c =
    let s = c.in_ok-s.s in
    let e = c.in_ok-l.ensures in
    let l = stepped whole s.a s.b s.d in
    let all = (counted_by whole s.a s.b s.d s.admitted e.0).all in
    ap (nth_of l) (rw (c.in_default.is, to_z-of_z c.ranges.x) at c.in_ok-k.ensures ∙ ap (pixel_index c.args.x c.args.limit) all)
    ∙ reading_is whole s.a s.b s.d s.admitted e.0 c.args.x c.args.limit (sym (rw (to_z-of_z c.ranges.x) at c.admits.ensures) ∙ c.if-not-admits.false)
    ∙ same-axis (λ (a b d : ℤ). step_reading whole a b d c.args.x c.args.limit) c.in_ok-s.ensures
