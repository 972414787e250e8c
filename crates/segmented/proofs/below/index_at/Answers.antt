-- `segmented::below::index_at` what the search leaves.
use Rattle.std.proofs.Common.{sym, ◌∙◌}
use Rattle.segmented.specs.Values.{exact}
use Rattle.ranged1d.proofs.Handed.{handed_found}
use Rattle.segmented.proofs.Rules.{index_unfit, index-stopped, index_is}
use Rattle.segmented.proofs.below.index_at.Goals as goal

pub returns-then-not-fits : goal.returns-then-not-fits
returns-then-not-fits g c =
    index_unfit (g.A.Axis.axis c.args.axis) (g.A.Axis.finder c.args.axis c.args.way) (exact c.args.v) (sym c.fits.ensures ∙ c.if-not-fits.true)

pub returns-in_err-stand : goal.returns-in_err-stand
returns-in_err-stand g c =
    handed_found c.from_residual.result c.in_err-stand.field-0.0 c.from_residual.ensures
    ∙ index-stopped (g.A.Axis.axis c.args.axis) (g.A.Axis.finder c.args.axis c.args.way) (exact c.args.v) (sym c.fits.ensures ∙ c.if-not-fits.false) c.in_err-stand.ensures.n_is

pub returns : goal.returns
returns g c =
    let axis = g.A.Axis.axis c.args.axis in
    c.find.ensures ∙ index_is axis (g.A.Axis.finder c.args.axis c.args.way) (rw c.in_ok-stand.ensures.axis_is at c.in_ok-stand.field-0.stands) c.args.v
