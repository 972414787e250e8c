use Rattle.std.proofs.Common.{ℕ, refl, sym, ap, ◌∙◌}
use lib.Ieee.{Float}
use Rattle.ranged1d.specs.Answer.{Answer}
use Rattle.linspace.specs.List.{real}
use Rattle.linspace.specs.Calls.{step_values}
use Rattle.linspace.proofs.Rules.{handed, same-axis, values-stopped}
use Rattle.linspace.proofs.reals.Linspacef64.values.Goals as goal

pub returns-in_err-n : goal.returns-in_err-n
returns-in_err-n c =
    let s = c.steps-s.result in
    ap (λ (r : Answer ℕ). (r, c.args.out.now)) (handed c.from_residual.result c.in_err-n.field-0.0 c.from_residual.ensures)
    ∙ values-stopped real s.a s.b s.d refl c.args.out.now (sym c.in_err-n.ensures)
    ∙ same-axis (λ (a b d : Float). step_values real a b d c.args.out.now) c.steps-s.ensures

pub returns-in_err-n-2 : goal.returns-in_err-n-2
returns-in_err-n-2 c =
    let s = c.steps-s.result in
    ap (λ (r : Answer ℕ). (r, c.args.out.now)) (handed c.from_residual-in_err-n-2.result c.in_err-n-2.field-0.0 c.from_residual-in_err-n-2.ensures)
    ∙ values-stopped real s.a s.b s.d refl c.args.out.now (sym c.in_err-n-2.ensures.count)
    ∙ same-axis (λ (a b d : Float). step_values real a b d c.args.out.now) c.steps-s.ensures
