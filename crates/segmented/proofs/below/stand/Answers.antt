-- `segmented::below::stand` what the search leaves.
use Rattle.std.proofs.Common.{ap, ◌∙◌}
use Rattle.ranged1d.specs.Answer.{given, and_then}
use Rattle.ranged1d.proofs.Handed.{handed}
use Rattle.segmented.proofs.Rules.{counted_by, stands}
use Rattle.segmented.proofs.below.stand.Goals as goal

pub returns-in_err-count-clause-n_is : goal.returns-in_err-count-clause-n_is
returns-in_err-count-clause-n_is g c =
    ap (λ r. and_then r (λ s. given s.n)) (handed c.from_residual.result c.in_err-count.field-0.0 c.from_residual.ensures)
    ∙ counted_by (g.A.Axis.axis c.args.axis) (g.met.A.Axis.regular c.args.axis) c.in_err-count.ensures

pub returns-in_err-n-clause-n_is : goal.returns-in_err-n-clause-n_is
returns-in_err-n-clause-n_is g c =
    ap (λ r. and_then r (λ s. given s.n)) (handed c.from_residual-in_err-n.result c.in_err-n.field-0.0 c.from_residual-in_err-n.ensures)
    ∙ c.in_err-n.ensures
    ∙ counted_by (g.A.Axis.axis c.args.axis) (g.met.A.Axis.regular c.args.axis) c.in_ok-count.ensures

pub invariant_of-result : goal.invariant_of-result
invariant_of-result g c =
    let axis = g.A.Axis.axis c.args.axis in
    let law = g.met.A.Axis.regular c.args.axis in
    record { stands = stands axis law.few (c.in_ok-n.ensures ∙ counted_by axis law c.in_ok-count.ensures) }

pub returns-clause-n_is : goal.returns-clause-n_is
returns-clause-n_is g c = c.in_ok-n.ensures ∙ counted_by (g.A.Axis.axis c.args.axis) (g.met.A.Axis.regular c.args.axis) c.in_ok-count.ensures
