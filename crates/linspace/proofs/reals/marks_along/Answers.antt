use Rattle.std.proofs.Common.{ℕ, refl, sym, ap, ◌∙◌}
use Rattle.ranged1d.specs.Answer.{Answer}
use Rattle.linspace.specs.List.{real}
use Rattle.linspace.proofs.Rules.{handed, points_stopped}
use Rattle.linspace.proofs.reals.marks_along.Goals as goal

pub returns-in_err-n : goal.returns-in_err-n
returns-in_err-n c =
    let s = c.args.s in
    ap (λ (r : Answer ℕ). (r, c.args.out.now)) (handed c.from_residual.result c.in_err-n.field-0.0 c.from_residual.ensures)
    ∙ points_stopped real s.a s.b s.d refl c.args.m c.args.out.now c.requires.m_value (sym c.in_err-n.ensures.count)
