use Rattle.std.proofs.Common.{◌≡◌, refl, sym, ap, ◌∙◌, true, rules, to_z-of_z}
use mir.Syntax.{w32}
use mir.Val.{SFits}
use Rattle.ranged1d.specs.Answer.{refused}
use Rattle.linspace.specs.List.{whole, axis_admitted}
use Rattle.linspace.specs.Calls.{step_size}
use Rattle.linspace.proofs.Rules.{handed, same-axis, place-refused, place_is}
use Rattle.linspace.proofs.WholeRules.{ends-place}
use Rattle.linspace.proofs.wholes.Linspacei32.map.Goals as goal

pub returns-in_err-s : goal.returns-in_err-s
returns-in_err-s c =
    let i = c.args.self in
    let e = c.in_err-s.ensures in
    handed c.from_residual.result c.in_err-s.field-0.0 c.from_residual.ensures ∙ ap refused e.0 ∙ place-refused whole i.inner.0 i.inner.1 i.step e.1 c.args.v c.args.limit

pub returns-in_err-z : goal.returns-in_err-z
returns-in_err-z c =
    let i = c.args.self in
    let on : axis_admitted whole i.inner.0 i.inner.1 i.step ≡ true = sym (same-axis (axis_admitted whole) c.in_ok-s.ensures) ∙ c.in_ok-s.s.admitted in
    handed c.from_residual-in_err-z.result c.in_err-z.field-0.0 c.from_residual-in_err-z.ensures
    ∙ place_is whole i.inner.0 i.inner.1 i.step on refl c.args.v c.args.limit (sym (rw (to_z-of_z c.ranges.v) at c.in_err-z.ensures ∙ ends-place i.inner.0 i.inner.1 i.step on c.args.v c.args.limit))

pub returns-in_err-counted : goal.returns-in_err-counted
returns-in_err-counted c =
    let i = c.args.self in
    let on : axis_admitted whole i.inner.0 i.inner.1 i.step ≡ true = sym (same-axis (axis_admitted whole) c.in_ok-s.ensures) ∙ c.in_ok-s.s.admitted in
    handed c.from_residual-in_err-counted.result c.in_err-counted.field-0.0 c.from_residual-in_err-counted.ensures
    ∙ place_is whole i.inner.0 i.inner.1 i.step on (sym (same-axis (step_size whole) c.in_ok-s.ensures) ∙ c.in_err-counted.ensures) c.args.v c.args.limit (sym (rw (to_z-of_z c.ranges.v) at c.in_ok-z.ensures ∙ ends-place i.inner.0 i.inner.1 i.step on c.args.v c.args.limit))

pub returns : goal.returns
returns c =
    let i = c.args.self in
    let on : axis_admitted whole i.inner.0 i.inner.1 i.step ≡ true = sym (same-axis (axis_admitted whole) c.in_ok-s.ensures) ∙ c.in_ok-s.s.admitted in
    let fits : SFits w32 c.in_ok-z.z = search rules in
    rw (to_z-of_z fits)
    (place_is whole i.inner.0 i.inner.1 i.step on (sym (same-axis (step_size whole) c.in_ok-s.ensures) ∙ c.in_ok-counted.ensures.0) c.args.v c.args.limit (sym (rw (to_z-of_z c.ranges.v) at c.in_ok-z.ensures ∙ ends-place i.inner.0 i.inner.1 i.step on c.args.v c.args.limit)))
