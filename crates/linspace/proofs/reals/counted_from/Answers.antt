use Rattle.std.proofs.Common.{ℕ, ◌≡◌, ◌<◌, ◌≤◌, ap, subst, ◌∙◌, length}
use Rattle.ranged1d.specs.Answer.{given, refused}
use Rattle.linspace.specs.List.{real, stepped}
use Rattle.linspace.proofs.Rules.{handed}
use Rattle.linspace.proofs.Axis.{walked-count, size-against, size-empty, size_long, size_is}
use Rattle.linspace.proofs.reals.counted_from.Goals as goal

pub returns-in_err-w : goal.returns-in_err-w
returns-in_err-w c =
    let s = c.args.s in
    let e = c.in_err-w.ensures in
    handed c.from_residual.result c.in_err-w.field-0.0 c.from_residual.ensures ∙ ap refused e.0 ∙ size-against s.a s.b s.d e.1

pub returns-in_default : goal.returns-in_default
returns-in_default c =
    let s = c.args.s in
    let e = rw c.in_default.is at c.in_ok-w.ensures in
    size-empty s.a s.b s.d e.0 e.1

pub returns-then-n-gt65536 : goal.returns-then-n-gt65536
returns-then-n-gt65536 c =
    let z = c.in-Some.w in
    let s = z.s in
    let e = rw c.in-Some.is at c.in_ok-w.ensures in
    let at = c.set_out-at in
    let count : c.count_on-n.result ≡ length (stepped real s.a s.b s.d) = c.count_on-n.ensures ∙ walked-count s.a s.b s.d at.result.n at.result.x z.some at.ensures in
    rw e.1 at (size_long s.a s.b s.d z.onward (subst (λ (n : ℕ). 65536 < n) count c.if-n-gt65536.true))

pub returns : goal.returns
returns c =
    let z = c.in-Some.w in
    let s = z.s in
    let e = rw c.in-Some.is at c.in_ok-w.ensures in
    let at = c.set_out-at in
    let count : c.count_on-n.result ≡ length (stepped real s.a s.b s.d) = c.count_on-n.ensures ∙ walked-count s.a s.b s.d at.result.n at.result.x z.some at.ensures in
    rw e.1 at (ap given count ∙ size_is s.a s.b s.d z.onward (subst (λ (n : ℕ). n ≤ 65536) count c.if-n-gt65536.false))
