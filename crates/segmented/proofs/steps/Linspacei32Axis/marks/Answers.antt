-- `segmented::steps::Linspacei32Axis::marks` what the search leaves.
use Rattle.std.proofs.Common.{ap, ◌∙◌, refl}
use Rattle.linspace.specs.List.{whole}
use Rattle.ranged1d.proofs.Handed.{handed}
use Rattle.segmented.proofs.StepRules.{points_some}
use Rattle.segmented.proofs.steps.Linspacei32Axis.marks.Goals as goal

pub returns-in_err-key_points : goal.returns-in_err-key_points
returns-in_err-key_points c =
    ap (λ r. (r, c.key_points.new.out)) (handed c.from_residual.result c.in_err-key_points.field-0.0 c.from_residual.ensures)
    ∙ points_some whole c.args.self.inner.0 c.args.self.inner.1 c.args.self.step c.args.m c.args.out.now refl c.in_err-key_points.ensures

pub returns : goal.returns
returns c = points_some whole c.args.self.inner.0 c.args.self.inner.1 c.args.self.step c.args.m c.args.out.now c.some_marks.ensures c.in_ok-key_points.ensures
