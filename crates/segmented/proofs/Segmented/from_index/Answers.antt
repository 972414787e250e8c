-- `segmented::Segmented::from_index` what the search leaves.
use Rattle.std.proofs.Common.{◌∙◌}
use Rattle.ranged1d.proofs.Handed.{handed_found}
use Rattle.segmented.proofs.Rules.{from-stopped, from_is}
use Rattle.segmented.proofs.Segmented.from_index.Goals as goal

pub returns-in_err-stand : goal.returns-in_err-stand
returns-in_err-stand g c =
    handed_found c.from_residual.result c.in_err-stand.field-0.0 c.from_residual.ensures
    ∙ from-stopped (g.A.Axis.axis c.args.self.0) c.args.k c.in_err-stand.ensures.n_is

pub returns : goal.returns
returns g c =
    rw c.in_ok-stand.ensures.axis_is at c.segment_at.ensures
    ∙ from_is (g.A.Axis.axis c.args.self.0) c.args.k (rw c.in_ok-stand.ensures.axis_is at c.in_ok-stand.field-0.stands)
