-- `rounding::floor` what the search leaves.
use Rattle.std.proofs.Common.{sym, ◌∙◌}
use lib.Ieee.{of_bits, neg}
use Rattle.rounding.specs.Integral.{floors}
use Rattle.rounding.proofs.Steps.{Small, below_power}
use Rattle.rounding.proofs.Sizes.{floor-cut, stays_floor, stays_large, least_low, least_high}
use Rattle.rounding.proofs.floor.Lts as lts
use Rattle.rounding.proofs.floor.Reads as reads
use Rattle.rounding.proofs.floor.Tie as tie
use Rattle.rounding.proofs.floor.Goals as goal
use Rattle.rounding.proofs.floor.Goals.{else-x-via-then-x+else-x-2, else-x-via-else-x}

abbrev at-Then2 : Type 0
at-Then2 = lts.Then2 tie.the-claims reads.Pre reads.Post tie.handed_clauses

pub floor_small-t-requires : goal.floor_small-t-requires
unfolding of_bits neg
floor_small-t-requires c = record { fact_1 = c.if-x.true; fact_2 = c.if-x-2.true }

held : (c : at-Then2) → Small c.args.x
unfolding of_bits neg
held c = below_power 52 c.args.x c.if-x.true c.if-x-2.true

pub returns-then-t-x : goal.returns-then-t-x
returns-then-t-x c =
    let k = c.before in
    let e = k.floor_small-t.ensures in
    e ∙ sym (floor-cut k.args.x (held k.before) (rw e at c.if-t-x.true))

pub returns-else-t-x : goal.returns-else-t-x
returns-else-t-x c =
    let k = c.before in
    sym (stays_floor floors k.args.x (held k.before) (rw k.floor_small-t.ensures at c.if-t-x.false))

pub returns-else-x : goal.returns-else-x
unfolding of_bits neg
returns-else-x c =
    let s = c.before in
    sym (stays_large floors s.args.x s.well_formed.0.1 (elim c.else-x.branch [ else-x-via-then-x+else-x-2 w ↦ least_high 52 s.args.x w.if-x-2.false | else-x-via-else-x w ↦ least_low 52 s.args.x w.if-x.false ]))
