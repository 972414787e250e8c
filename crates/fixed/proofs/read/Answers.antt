-- `fixed::read` what the search leaves.
use Rattle.std.proofs.Common.{arith, ◌≤◌, rules, ℕ, ◌≡◌, ◌∙◌, ap}
use Rattle.std.specs.Prelude.{Err}
use Rattle.ranged1d.specs.Answer.{refused}
use Rattle.ranged1d.specs.Told.{tell}
use Rattle.fixed.specs.Steps.{printed}
use Rattle.fixed.proofs.Calls.{read_24, read_by, or-25}
use Rattle.fixed.proofs.read.Goals as goal

pub returns-in_err-f : goal.returns-in_err-f
returns-in_err-f c =
    let a : c.from_residual.result ≡ Err c.in_err-f.field-0.0 = search rules in
    let m = c.in_err-f.ensures in
    rw a (ap (λ (n : ℕ). refused n) m.0 ∙ read_24 c.args.text.now c.args.decimals m.1)

pub returns : goal.returns
returns c =
    let same = c.in_ok-f.ensures in
    let few : c.args.decimals ≤ 6 = omega (arith, same, c.in_ok-f.f.few) in
    let s = c.args.text.now in
    ap tell c.ok_or.ensures.value ∙ or-25 c.printed.result c.args.decimals s (c.printed.ensures ∙ ap (λ (f : ℕ). printed f s) same) ∙ read_by s c.args.decimals few
