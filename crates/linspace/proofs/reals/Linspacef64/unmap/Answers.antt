use Rattle.std.proofs.Common.{refl, sym, ap, ◌∙◌, to_z-of_z}
use lib.Ieee.{Float}
use Rattle.ranged1d.specs.Answer.{refused}
use Rattle.linspace.specs.List.{real}
use Rattle.linspace.specs.Calls.{step_reading}
use Rattle.linspace.proofs.Rules.{handed_found, same-axis, reading-outside}
use Rattle.linspace.proofs.Counts.{reading-against, reading-empty}
use Rattle.linspace.proofs.reals.Linspacef64.unmap.Goals as goal

pub returns-then-not-admits : goal.returns-then-not-admits
returns-then-not-admits c = let i = c.args.self in reading-outside real i.inner.0 i.inner.1 i.step refl c.args.x c.args.limit (sym (rw (to_z-of_z c.ranges.x) at c.admits.ensures) ∙ c.if-not-admits.true)

pub returns-in_err-w : goal.returns-in_err-w
returns-in_err-w c =
    let s = c.steps-s.result in
    let e = c.in_err-w.ensures in
    handed_found c.from_residual.result c.in_err-w.field-0.0 c.from_residual.ensures
    ∙ ap refused e.0
    ∙ reading-against s.a s.b s.d c.args.x c.args.limit (sym (rw (to_z-of_z c.ranges.x) at c.admits.ensures) ∙ c.if-not-admits.false) e.1
    ∙ same-axis (λ (a b d : Float). step_reading real a b d c.args.x c.args.limit) c.steps-s.ensures

pub returns-in-None : goal.returns-in-None
returns-in-None c =
    let s = c.steps-s.result in
    let e = rw c.in-None.is at c.in_ok-w.ensures in
    reading-empty s.a s.b s.d c.args.x c.args.limit (sym (rw (to_z-of_z c.ranges.x) at c.admits.ensures) ∙ c.if-not-admits.false) e.0 e.1
    ∙ same-axis (λ (a b d : Float). step_reading real a b d c.args.x c.args.limit) c.steps-s.ensures
