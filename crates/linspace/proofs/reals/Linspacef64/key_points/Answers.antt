use Rattle.std.proofs.Common.{ℕ, refl, sym, ap, ◌∙◌}
use lib.Ieee.{Float}
use Rattle.ranged1d.specs.Answer.{Answer}
use Rattle.linspace.specs.List.{real}
use Rattle.linspace.specs.Calls.{step_key_points}
use Rattle.linspace.proofs.Rules.{handed, same-axis, points_none, points_stopped}
use Rattle.linspace.proofs.reals.Linspacef64.key_points.Goals as goal

pub returns-then-lacks_mark : goal.returns-then-lacks_mark
returns-then-lacks_mark c =
    let s = c.steps-s.result in
    points_none real s.a s.b s.d refl c.args.m c.args.out.now (sym c.lacks_mark.ensures ∙ c.if-lacks_mark.true)
    ∙ same-axis (λ (a b d : Float). step_key_points real a b d c.args.m c.args.out.now) c.steps-s.ensures

pub returns-in_err-n : goal.returns-in_err-n
returns-in_err-n c =
    let s = c.steps-s.result in
    ap (λ (r : Answer ℕ). (r, c.args.out.now)) (handed c.from_residual.result c.in_err-n.field-0.0 c.from_residual.ensures)
    ∙ points_stopped real s.a s.b s.d refl c.args.m c.args.out.now (sym c.lacks_mark.ensures ∙ c.if-lacks_mark.false) (sym c.in_err-n.ensures)
    ∙ same-axis (λ (a b d : Float). step_key_points real a b d c.args.m c.args.out.now) c.steps-s.ensures
