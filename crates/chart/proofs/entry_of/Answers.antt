use Rattle.std.proofs.Common.{ℕ, Option, ap, sym, ◌∙◌}
use Rattle.std.proofs.lemmas.Result.{err_from_is_err_and}
use Rattle.std.proofs.Math.Facts.{to_z-of_z}
use Rattle.ranged1d.specs.Told.{tell_option}
use Rattle.chart.proofs.Rules.{entry_among, entry_long, entry_found, entry_searched}
use Rattle.chart.proofs.entry_of.Goals as goal

pub returns-in_err-k : goal.returns-in_err-k
returns-in_err-k c =
    let p = err_from_is_err_and c.from_residual.result c.from_residual.ensures.1 in
    let x = c.args.axis in
    rw (p.1, p.2) (ap entry_among (rw (to_z-of_z c.ranges.pin) at c.in_err-k.ensures) ∙ entry_searched x.inner.0 x.inner.1 x.step c.args.pin)

pub returns-in-Some : goal.returns-in-Some
returns-in-Some c =
    let x = c.args.axis in
    let e = ap entry_among (ap (λ (o : Option (ℕ × ℕ)). tell_option o) (sym c.in-Some.is) ∙ rw (to_z-of_z c.ranges.pin) at c.in_ok-k.ensures) ∙ entry_searched x.inner.0 x.inner.1 x.step c.args.pin in
    entry_found c.in-Some.k c.in-Some.n e (sym c.if-not-too_many.ensures)

pub returns-in_default : goal.returns-in_default
returns-in_default c =
    let x = c.args.axis in
    let e = ap entry_among (ap (λ (o : Option (ℕ × ℕ)). tell_option o) (sym c.in-Some.is) ∙ rw (to_z-of_z c.ranges.pin) at c.in_ok-k.ensures) ∙ entry_searched x.inner.0 x.inner.1 x.step c.args.pin in
    entry_long c.in-Some.k c.in-Some.n e (sym c.if-not-too_many.ensures)

pub returns-in_default-2 : goal.returns-in_default-2
returns-in_default-2 c =
    let x = c.args.axis in
    ap entry_among (ap (λ (o : Option (ℕ × ℕ)). tell_option o) (sym c.in_default.is) ∙ rw (to_z-of_z c.ranges.pin) at c.in_ok-k.ensures) ∙ entry_searched x.inner.0 x.inner.1 x.step c.args.pin
