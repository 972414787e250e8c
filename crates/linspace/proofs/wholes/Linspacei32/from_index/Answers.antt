use Rattle.std.proofs.Common.{sym, ap, ◌∙◌, List}
use Rattle.linspace.specs.List.{whole, stepped}
use Rattle.linspace.specs.Calls.{nth}
use Rattle.linspace.proofs.Rules.{handed_found, stops, counts_admitted, once_listed, from-refused, from_is}
use Rattle.linspace.proofs.wholes.Linspacei32.from_index.Goals as goal
use lib.IntN.{ℤ}

pub returns-in_err-l : goal.returns-in_err-l
returns-in_err-l c =
    let i = c.args.self in
    let e = c.in_err-l.ensures in
    handed_found c.from_residual.result c.in_err-l.field-0.0 c.from_residual.ensures
    ∙ stops whole i.inner.0 i.inner.1 i.step (λ r. once_listed r (nth (stepped whole i.inner.0 i.inner.1 i.step) c.args.k)) e (λ h. from_is whole i.inner.0 i.inner.1 i.step h e c.args.k) (λ h. from-refused whole i.inner.0 i.inner.1 i.step h c.args.k)

pub returns : goal.returns
returns c =
    let i = c.args.self in
    let e = c.in_ok-l.ensures in
    let h = counts_admitted whole i.inner.0 i.inner.1 i.step e.0 in
    c.get.ensures
    ∙ ap (λ (l : List ℤ). nth l c.args.k) (sym e.1)
    ∙ from_is whole i.inner.0 i.inner.1 i.step h e.0 c.args.k
