use Rattle.std.proofs.Common.{ap, ◌∙◌}
use lib.Ieee.{Float}
use Rattle.ranged1d.specs.Answer.{refused}
use Rattle.linspace.specs.List.{real}
use Rattle.linspace.specs.Calls.{step_index_of}
use Rattle.linspace.proofs.Rules.{handed_found, same-axis}
use Rattle.linspace.proofs.Indices.{index-against, index-empty}
use Rattle.linspace.proofs.reals.Linspacef64.index_of.Goals as goal

pub returns-in_err-w : goal.returns-in_err-w
returns-in_err-w c =
    let s = c.steps-s.result in
    let e = c.in_err-w.ensures in
    handed_found c.from_residual.result c.in_err-w.field-0.0 c.from_residual.ensures
    ∙ ap refused e.0
    ∙ index-against s.a s.b s.d c.args.v c.args.method e.1
    ∙ same-axis (λ (a b d : Float). step_index_of real a b d c.args.v c.args.method) c.steps-s.ensures

pub returns-in-None : goal.returns-in-None
returns-in-None c =
    let s = c.steps-s.result in
    let e = rw c.in-None.is at c.in_ok-w.ensures in
    c.settle_nan.ensures
    ∙ index-empty s.a s.b s.d c.args.v c.args.method e.0 e.1
    ∙ same-axis (λ (a b d : Float). step_index_of real a b d c.args.v c.args.method) c.steps-s.ensures
