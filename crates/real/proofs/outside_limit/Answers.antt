-- `real::outside_limit` what the search leaves.
use Rattle.std.proofs.Common.{◌≡◌, ◌∙◌, to_z-of_z}
use Rattle.ranged1d.specs.Numbers.{low, high}
use Rattle.real.proofs.Wraps.{min_is, max_is, low_is, high_is}
use Rattle.real.proofs.outside_limit.Goals as goal

pub returns-else-x-min : goal.returns-else-x-min
returns-else-x-min c =
    let p = c.args.p in
    let q = c.args.q in
    let x_is = to_z-of_z c.ranges.x in
    let p_is = to_z-of_z c.ranges.p in
    let q_is = to_z-of_z c.ranges.q in
    let lo : c.min.result ≡ low p q = rw (p_is, q_is) at c.min.ensures.value ∙ min_is p q in
    let hi : c.max.result ≡ high p q = rw (p_is, q_is) at c.max.ensures.value ∙ max_is p q in
    rw (hi, high_is p q c.ranges.p c.ranges.q, x_is, rw (lo, low_is p q c.ranges.p c.ranges.q, x_is) at c.if-x-min.false)
