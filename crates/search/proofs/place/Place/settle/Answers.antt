use Rattle.std.proofs.Common.{rules, ◌∙◌}
use Rattle.search.specs.Settled.{settled}
use Rattle.search.proofs.Cases.{settled_miss}
use Rattle.search.proofs.place.Place.settle.Goals as goal
use Rattle.search.proofs.place.Place.settle.Goals.{else-self-via-then-self+else-is_equal, else-self-via-else-self}

pub returns-then-is_equal : goal.returns-then-is_equal
unfolding settled
returns-then-is_equal g c = search rules

pub returns : goal.returns
returns g c =
    c.settle_other.ensures
    ∙ settled_miss g.T.Entry.numbers c.args.method c.args.self.rises c.args.self.n c.args.self.i c.args.x c.args.t c.args.y c.is_closer.result
    (elim c.else-self.branch [ else-self-via-then-self+else-is_equal w ↦ search rules | else-self-via-else-self w ↦ search rules ])
    c.is_closer.ensures
