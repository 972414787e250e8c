-- `real::end_at` what the search leaves.
use Rattle.std.proofs.Common.{to_z-of_z}
use lib.Ieee.{of_bits}
use Rattle.real.proofs.Wraps.{wide}
use Rattle.real.proofs.end_at.Goals as goal

pub returns-then-t : goal.returns-then-t
unfolding of_bits
returns-then-t c = rw (c.from.ensures, to_z-of_z c.ranges.q, wide _ c.ranges.q, c.if-t.true)

pub returns-then-t-2 : goal.returns-then-t-2
unfolding of_bits
returns-then-t-2 c = rw (c.from-then-t-2.ensures, to_z-of_z c.ranges.p, wide _ c.ranges.p, c.if-t.false, c.if-t-2.true)

pub returns-else-t-2 : goal.returns-else-t-2
unfolding of_bits
returns-else-t-2 c = rw (c.if-t.false, c.if-t-2.false)
