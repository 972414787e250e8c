-- `segmented::Segmented::unmap` what the search leaves.
use Rattle.std.proofs.Common.{sym, ◌∙◌, to_z-of_z}
use Rattle.ranged1d.proofs.Handed.{handed_found}
use Rattle.segmented.proofs.Rules.{reading_unfit, reading_off, reading-stopped, reading_is}
use Rattle.segmented.proofs.Segmented.unmap.Goals as goal

pub returns-then-not-admitted : goal.returns-then-not-admitted
returns-then-not-admitted g c = reading_unfit (g.A.Axis.axis c.args.self.0) c.args.x c.args.limit (sym c.admitted.ensures ∙ c.if-not-admitted.true)

pub returns-then-not-admits : goal.returns-then-not-admits
returns-then-not-admits g c =
    reading_off (g.A.Axis.axis c.args.self.0) c.args.x c.args.limit (sym c.admitted.ensures ∙ c.if-not-admitted.false) (rw (to_z-of_z c.ranges.x) at (sym c.admits.ensures ∙ c.if-not-admits.true))

pub returns-in_err-all : goal.returns-in_err-all
returns-in_err-all g c =
    handed_found c.from_residual.result c.in_err-all.field-0.0 c.from_residual.ensures
    ∙ reading-stopped (g.A.Axis.axis c.args.self.0) c.args.x c.args.limit (sym c.admitted.ensures ∙ c.if-not-admitted.false) (rw (to_z-of_z c.ranges.x) at (sym c.admits.ensures ∙ c.if-not-admits.false)) c.in_err-all.ensures.n_is

pub returns-in_err-k : goal.returns-in_err-k
returns-in_err-k g c =
    handed_found c.from_residual-in_err-k.result c.in_err-k.field-0.0 c.from_residual-in_err-k.ensures
    ∙ reading_is (g.A.Axis.axis c.args.self.0) c.args.x c.args.limit (sym c.admitted.ensures ∙ c.if-not-admitted.false) (rw (to_z-of_z c.ranges.x) at (sym c.admits.ensures ∙ c.if-not-admits.false)) (rw c.in_ok-all.ensures.axis_is at c.in_ok-all.all.stands) (rw (to_z-of_z c.ranges.x) at c.in_err-k.ensures)

pub returns-in_default : goal.returns-in_default
returns-in_default g c =
    reading_is (g.A.Axis.axis c.args.self.0) c.args.x c.args.limit (sym c.admitted.ensures ∙ c.if-not-admitted.false) (rw (to_z-of_z c.ranges.x) at (sym c.admits.ensures ∙ c.if-not-admits.false)) (rw c.in_ok-all.ensures.axis_is at c.in_ok-all.all.stands) (rw (c.in_default.is, to_z-of_z c.ranges.x) at c.in_ok-k.ensures)

pub returns : goal.returns
returns g c =
    (rw c.in_ok-all.ensures.axis_is at c.segment_at.ensures)
    ∙ reading_is (g.A.Axis.axis c.args.self.0) c.args.x c.args.limit (sym c.admitted.ensures ∙ c.if-not-admitted.false) (rw (to_z-of_z c.ranges.x) at (sym c.admits.ensures ∙ c.if-not-admits.false)) (rw c.in_ok-all.ensures.axis_is at c.in_ok-all.all.stands) (rw (c.in-Some.is, to_z-of_z c.ranges.x) at c.in_ok-k.ensures)
