use Rattle.std.proofs.Common.{ℕ, get_or, ap, ◌∙◌}
use Rattle.std.proofs.lemmas.Result.{err_from_is_err_and}
use Rattle.std.proofs.Math.Facts.{to_z-of_z}
use Rattle.ranged1d.specs.Answer.{Answer}
use Rattle.chart.specs.Chart.{Pulling}
use Rattle.chart.proofs.Rules.{stored, stands_of, pin_is, taken-refused, taken_given}
use Rattle.chart.proofs.pull.Goals as goal

pub returns-in_err-counts : goal.returns-in_err-counts
returns-in_err-counts c =
    let p = err_from_is_err_and c.from_residual-in_err-counts.result c.from_residual-in_err-counts.ensures.1 in
    let x = c.args.axis in
    let f = (rw (to_z-of_z c.ranges.pin) at c.in_ok-k.ensures.found) in
    let old = c.args.counts.now in
    rw (p.1, p.2)
    (ap (λ (r : Answer ℕ). stored r old c.in_ok-k.k) (taken-refused (get_or c.args.counts.now c.in_ok-k.k 0) c.checked_sub.result c.checked_sub.ensures c.in_err-counts.field-0.0 c.in_err-counts.ensures.value)
    ∙ pin_is x.inner.0 x.inner.1 x.step c.args.pin Pulling old (stands_of x.inner.0 x.inner.1 x.step c.args.pin f.0) f.1)

pub returns : goal.returns
returns c =
    let x = c.args.axis in
    let f = (rw (to_z-of_z c.ranges.pin) at c.in_ok-k.ensures.found) in
    let old = c.args.counts.now in
    ap (λ (r : Answer ℕ). stored r old c.in_ok-k.k) (taken_given (get_or c.args.counts.now c.in_ok-k.k 0) c.checked_sub.result c.checked_sub.ensures c.in_ok-counts.field-0 c.in_ok-counts.ensures.value)
    ∙ pin_is x.inner.0 x.inner.1 x.step c.args.pin Pulling old (stands_of x.inner.0 x.inner.1 x.step c.args.pin f.0) f.1
