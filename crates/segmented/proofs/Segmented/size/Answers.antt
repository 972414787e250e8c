-- `segmented::Segmented::size` what the search leaves.
use Rattle.std.proofs.Common.{◌∙◌}
use Rattle.ranged1d.proofs.Handed.{handed}
use Rattle.segmented.proofs.Rules.{size-stopped, size_is}
use Rattle.segmented.proofs.Segmented.size.Goals as goal

pub returns-in_err-stand : goal.returns-in_err-stand
returns-in_err-stand g c =
    handed c.from_residual.result c.in_err-stand.field-0.0 c.from_residual.ensures
    ∙ size-stopped (g.A.Axis.axis c.args.self.0) c.in_err-stand.ensures.n_is

pub returns : goal.returns
returns g c = size_is (g.A.Axis.axis c.args.self.0) (rw c.in_ok-stand.ensures.axis_is at c.in_ok-stand.field-0.stands)
