-- `segmented::wholes::RangedCoordi32Axis::marks` what the search leaves.
use Rattle.std.proofs.Common.{ap, ◌∙◌}
use Rattle.segmented.specs.Axes.{whole_axis}
use Rattle.segmented.specs.Regular.{whole-regular}
use Rattle.ranged1d.proofs.Handed.{handed}
use Rattle.segmented.proofs.Rules.{stands}
use Rattle.segmented.proofs.WholeRules.{counted, points_refused, points_stopped, points_is}
use Rattle.segmented.proofs.wholes.RangedCoordi32Axis.marks.Goals as goal

pub returns-in_err-plan : goal.returns-in_err-plan
returns-in_err-plan c =
    ap (λ r. (r, c.args.out.now)) (handed c.from_residual.result c.in_err-plan.field-0.0 c.from_residual.ensures)
    ∙ points_refused c.args.self.0 c.args.self.1 c.args.m c.args.out.now c.in_err-plan.ensures

pub returns-in_err-size : goal.returns-in_err-size
returns-in_err-size c =
    ap (λ r. (r, c.args.out.now)) (handed c.from_residual-in_err-size.result c.in_err-size.field-0.0 c.from_residual-in_err-size.ensures)
    ∙ points_stopped c.args.self.0 c.args.self.1 c.args.m c.args.out.now c.in_ok-plan.ensures (counted c.args.self.0 c.args.self.1 c.in_err-size.ensures)

pub returns-in_err-some_entries : goal.returns-in_err-some_entries
returns-in_err-some_entries c =
    ap (λ r. (r, c.args.out.now)) (handed c.from_residual-in_err-some_entries.result c.in_err-some_entries.field-0.0 c.from_residual-in_err-some_entries.ensures)
    ∙ points_stopped c.args.self.0 c.args.self.1 c.args.m c.args.out.now c.in_ok-plan.ensures (c.in_err-some_entries.ensures ∙ counted c.args.self.0 c.args.self.1 c.in_ok-size.ensures)

pub returns : goal.returns
returns c =
    c.key_points.ensures
    ∙ points_is c.args.self.0 c.args.self.1 c.args.m c.args.out.now c.in_ok-plan.ensures (stands (whole_axis c.args.self.0 c.args.self.1) (whole-regular c.args.self.0 c.args.self.1).few (c.in_ok-some_entries.ensures ∙ counted c.args.self.0 c.args.self.1 c.in_ok-size.ensures))
