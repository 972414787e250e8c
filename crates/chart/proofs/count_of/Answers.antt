use Rattle.std.proofs.Common.{length, sym, ◌∙◌, arith}
use Rattle.std.proofs.lemmas.Result.{err_from_is_err_and}
use Rattle.std.proofs.Math.Facts.{to_z-of_z}
use borrow.Author.Tests.{ltb-false}
use Rattle.chart.specs.Chart.{chart_size}
use Rattle.chart.proofs.Rules.{stands_of, pin-stopped, pin-short}
use Rattle.chart.proofs.count_of.Goals as goal

pub returns-in_err-k-clause-refused : goal.returns-in_err-k-clause-refused
returns-in_err-k-clause-refused c =
    let p = err_from_is_err_and c.from_residual.result c.from_residual.ensures.1 in
    let x = c.args.axis in
    rw (p.1, p.2) (λ deed. sym (pin-stopped x.inner.0 x.inner.1 x.step c.args.pin deed c.args.counts.now (sym (rw (to_z-of_z c.ranges.pin) at c.in_err-k.ensures))))

pub returns-then-too_few-clause-refused : goal.returns-then-too_few-clause-refused
returns-then-too_few-clause-refused c = λ deed.
    let x = c.args.axis in
    sym (pin-short x.inner.0 x.inner.1 x.step c.args.pin deed c.args.counts.now (stands_of x.inner.0 x.inner.1 x.step c.args.pin (sym (rw (to_z-of_z c.ranges.pin) at c.in_ok-k.ensures))) (sym c.too_few.ensures ∙ c.if-too_few.true))

pub returns-clause-inside : goal.returns-clause-inside
returns-clause-inside c =
    let x = c.args.axis in
    let i = (stands_of x.inner.0 x.inner.1 x.step c.args.pin (sym (rw (to_z-of_z c.ranges.pin) at c.in_ok-k.ensures))).inside in
    (i, omega (arith, i, ltb-false (length c.args.counts.now) chart_size (sym c.too_few.ensures ∙ c.if-too_few.false)))
