use Rattle.std.proofs.Common.{◌≡◌, List, ◌++◌, ℕ, length, take, drop, replicate, length-take-le, ap, sym, ◌∙◌}
use borrow.Author.Tests.{ltb-false}
use Rattle.std.proofs.lemmas.Result.{err_from_is_err_and}
use Rattle.chart.specs.Chart.{done, chart_size, empty_chart}
use Rattle.chart.proofs.Rules.{clear_stopped, clear_long, clear_short, clear_done}
use Rattle.chart.proofs.clear.Goals as goal

pub returns-in_err-size : goal.returns-in_err-size
returns-in_err-size c =
    let p = err_from_is_err_and c.from_residual.result c.from_residual.ensures.1 in
    let x = c.args.axis in
    rw (p.1, p.2) (clear_stopped x.inner.0 x.inner.1 x.step c.args.counts.now (sym c.in_err-size.ensures))

pub returns-then-too_many : goal.returns-then-too_many
returns-then-too_many c =
    let x = c.args.axis in
    clear_long x.inner.0 x.inner.1 x.step c.args.counts.now (sym c.in_ok-size.ensures) (sym c.too_many.ensures ∙ c.if-too_many.true)

pub returns-then-too_few : goal.returns-then-too_few
returns-then-too_few c =
    let x = c.args.axis in
    clear_short x.inner.0 x.inner.1 x.step c.args.counts.now (sym c.in_ok-size.ensures) (sym c.too_many.ensures ∙ c.if-too_many.false) (sym c.too_few.ensures ∙ c.if-too_few.true)

pub returns : goal.returns
unfolding empty_chart
returns c =
    let x = c.args.axis in
    let l = c.args.counts.now in
    let k : length (take chart_size l) ≡ chart_size = length-take-le chart_size l (ltb-false (length l) chart_size (sym c.too_few.ensures ∙ c.if-too_few.false)) in
    ap (λ (z : List ℕ). (done, z ++ drop chart_size l)) (c.fill.ensures.after (λ y h. h) ∙ ap (λ (n : ℕ). replicate n 0) k)
    ∙ clear_done x.inner.0 x.inner.1 x.step c.args.counts.now (sym c.in_ok-size.ensures) (sym c.too_many.ensures ∙ c.if-too_many.false) (sym c.too_few.ensures ∙ c.if-too_few.false)
