use Rattle.std.proofs.Common.{nat_abs, rules, w32, to_z, ◌∙◌}
use Rattle.numeric.proofs.Plans.{index-as}
use Rattle.numeric.proofs.RangedCoordusize.key_points.Goals as goal

pub returns : goal.returns
returns c = c.write_marks.ensures nat_abs (λ z x p. search rules) ∙ index-as c.args.self.0 c.args.self.1 {x = to_z w32 c.args.self.0} {y = to_z w32 c.args.self.1} c.args.m c.args.out.now (search rules) (search rules)
