-- `ruler::Drawing::layout` what the search leaves.
use Rattle.std.proofs.Common.{sym, ◌∙◌}
use Rattle.std.proofs.lemmas.Result.{err_from_is_err_and}
use Rattle.ruler.proofs.Drawn.{plan_plain}
use Rattle.ruler.proofs.Drawing.layout.Goals as goal

pub returns-in_err-points : goal.returns-in_err-points
returns-in_err-points c =
    let r = err_from_is_err_and c.from_residual.result c.from_residual.ensures.1 in
    rw (r.1, r.2) (plan_plain _ c.args.self.twist _ _ _ _ ∙ sym c.in_err-points.ensures)

pub invariant_of-result : goal.invariant_of-result
invariant_of-result c = record { planned = plan_plain _ c.args.self.twist _ _ _ _ ∙ sym c.in_ok-points.ensures }
