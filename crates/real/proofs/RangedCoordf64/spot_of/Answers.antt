-- `real::RangedCoordf64::spot_of` what the search leaves.
use Rattle.real.specs.Place.{spot}
use Rattle.real.proofs.Wraps.{p_is, q_is, length_is, half_is, half_wide}
use Rattle.real.proofs.RangedCoordf64.spot_of.Goals as goal

pub returns-then-a-b : goal.returns-then-a-b
unfolding spot
returns-then-a-b c =
    let l = c.args.limit in
    let h = c.requires in
    rw (c.from.ensures, q_is l h, p_is l h, length_is l h, half_is l h, half_wide l h, c.if-a-b.true)

pub returns : goal.returns
unfolding spot
returns c =
    let l = c.args.limit in
    let h = c.requires in
    rw c.if-a-b.false (rw (p_is l h, q_is l h, length_is l h) at c.place_along.ensures)
