use Rattle.std.proofs.Common.{refl, sym, ap, ◌∙◌, rules, to_z-of_z}
use mir.Syntax.{w32}
use mir.Val.{SFits}
use Rattle.ranged1d.specs.Answer.{given}
use Rattle.linspace.specs.List.{real}
use Rattle.linspace.specs.Calls.{step_size}
use Rattle.linspace.proofs.Rules.{handed, same-axis}
use Rattle.linspace.proofs.Counts.{place_by}
use Rattle.linspace.proofs.reals.Linspacef64.map.Goals as goal

pub returns-in_err-z : goal.returns-in_err-z
returns-in_err-z c =
    let i = c.args.self in
    handed c.from_residual.result c.in_err-z.field-0.0 c.from_residual.ensures ∙ place_by i.inner.0 i.inner.1 i.step c.args.v c.args.limit refl (sym c.in_err-z.ensures)

pub returns-in_err-counted : goal.returns-in_err-counted
returns-in_err-counted c =
    let i = c.args.self in
    handed c.from_residual-in_err-counted.result c.in_err-counted.field-0.0 c.from_residual-in_err-counted.ensures
    ∙ place_by i.inner.0 i.inner.1 i.step c.args.v c.args.limit (sym (c.in_err-counted.ensures ∙ same-axis (step_size real) c.steps.ensures)) (sym c.in_ok-z.ensures)

pub returns : goal.returns
returns c =
    let i = c.args.self in
    let fits : SFits w32 c.in_ok-z.z = search rules in
    ap given (to_z-of_z fits) ∙ place_by i.inner.0 i.inner.1 i.step c.args.v c.args.limit (sym (c.in_ok-counted.ensures ∙ same-axis (step_size real) c.steps.ensures)) (sym c.in_ok-z.ensures)
