use Rattle.std.proofs.Common.{sym, ap, ap₂, ◌∙◌, List, ◌++◌, arith}
use Rattle.ranged1d.specs.Answer.{Answer, given}
use Rattle.linspace.specs.List.{whole}
use Rattle.linspace.proofs.Rules.{handed, stops, counts_admitted, values-refused, values-stopped, values-short, values-written}
use Rattle.linspace.proofs.wholes.Linspacei32.values.Goals as goal
use borrow.Rule.Slice.PartMut.{Post-is}
use Rattle.std.proofs.Common.{ℕ}
use lib.IntN.{ℤ}

pub returns-in_err-l : goal.returns-in_err-l
returns-in_err-l c =
    let i = c.args.self in
    let old = c.args.out.now in
    let e = c.in_err-l.ensures in
    ap (λ (r : Answer ℕ). (r, old)) (handed c.from_residual.result c.in_err-l.field-0.0 c.from_residual.ensures)
    ∙ stops whole i.inner.0 i.inner.1 i.step (λ r. (r, old)) e (λ h. values-stopped whole i.inner.0 i.inner.1 i.step h old e) (λ h. values-refused whole i.inner.0 i.inner.1 i.step h old)

pub returns-then-out-size : goal.returns-then-out-size
returns-then-out-size c =
    let i = c.args.self in
    let e = c.in_ok-l.ensures in
    let h = counts_admitted whole i.inner.0 i.inner.1 i.step e.0 in
    values-short whole i.inner.0 i.inner.1 i.step h c.args.out.now e.0 c.if-out-size.true

pub returns : goal.returns
returns c =
    let i = c.args.self in
    let e = c.in_ok-l.ensures in
    let h = counts_admitted whole i.inner.0 i.inner.1 i.step e.0 in
    let n = c.in_ok-l.l.n in
    ap (λ (z : List ℤ). (given n, z)) (ap₂ (λ (y z : List ℤ). y ++ z) (c.put.ensures ∙ sym e.1) (Post-is 0 n c.args.out.now (omega arith)))
    ∙ values-written whole i.inner.0 i.inner.1 i.step h c.args.out.now e.0 c.if-out-size.false
