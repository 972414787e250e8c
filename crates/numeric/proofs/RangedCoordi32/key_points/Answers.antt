use Rattle.std.proofs.Common.{rules, ◌∙◌}
use Rattle.numeric.proofs.Plans.{whole-as}
use Rattle.numeric.proofs.RangedCoordi32.key_points.Goals as goal

pub returns : goal.returns
returns c = c.write_marks.ensures (λ z. z) (λ z x p. search rules) ∙ whole-as c.args.self.0 c.args.self.1 c.args.m c.args.out.now
