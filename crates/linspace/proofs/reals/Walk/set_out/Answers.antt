use Rattle.std.proofs.Common.{sym, ◌∙◌, rules}
use Rattle.std.specs.Float.Ieee.{lt}
use Rattle.linspace.specs.List.{real, toward}
use Rattle.linspace.specs.RealSteps.{plus_step}
use Rattle.linspace.proofs.Walks.{walk_starts}
use Rattle.linspace.proofs.Ahead.{walked-far}
use Rattle.linspace.proofs.reals.Walk.set_out.Goals as goal

pub returns-then-precedes : goal.returns-then-precedes
returns-then-precedes c =
    let w = c.args.self in
    walked-far w.s.a w.s.b w.s.d (search rules) w.onward w.some c.args.k c.args.x c.requires.k_bound c.requires.x_value (sym (rw c.rises.ensures at c.precedes.ensures) ∙ c.if-precedes.true)

pub returns : goal.returns
returns c = let s = c.args.self.s in walk_starts (toward real (lt s.a s.b) s.b) (plus_step s.d) 65537 s.a
