-- `segmented::below::index_by` what the search leaves.
use Rattle.std.proofs.Common.{sym, ap, ◌∙◌}
use Rattle.std.proofs.Common.{refl}
use Rattle.segmented.specs.Values.{last}
use Rattle.segmented.specs.Segments.{segment_index_of}
use Rattle.ranged1d.proofs.Handed.{handed_found}
use Rattle.segmented.proofs.Rules.{index_carried, index-stopped, index-last}
use Rattle.segmented.proofs.below.index_by.Goals as goal

pub returns-in_err-stand-in-Last : goal.returns-in_err-stand-in-Last
returns-in_err-stand-in-Last g c =
    let axis = g.A.Axis.axis c.args.axis in
    let find = g.A.Axis.finder c.args.axis c.args.way in
    handed_found c.from_residual.result c.in_err-stand-in-Last.field-0.0 c.from_residual.ensures
    ∙ index-stopped axis find last refl c.in_err-stand-in-Last.ensures.n_is
    ∙ ap (segment_index_of axis find) (sym c.in-Last.is)

pub returns-in-Exact : goal.returns-in-Exact
returns-in-Exact g c = c.index_at.ensures ∙ index_carried (g.A.Axis.axis c.args.axis) (g.A.Axis.finder c.args.axis c.args.way) c.in-Exact.v c.in-Exact.is

pub returns-in_ok-stand-in-Last : goal.returns-in_ok-stand-in-Last
returns-in_ok-stand-in-Last g c =
    let axis = g.A.Axis.axis c.args.axis in
    let find = g.A.Axis.finder c.args.axis c.args.way in
    index-last axis find (rw c.in_ok-stand-in-Last.ensures.axis_is at c.in_ok-stand-in-Last.field-0.stands)
    ∙ ap (segment_index_of axis find) (sym c.in-Last.is)
