use Rattle.std.proofs.Common.{refl, ◌+◌, ◌-◌, ◌/◌, ◌≤◌, arith, rules}
use lib.Ieee.{neg, of_bits}
use Rattle.linspace.proofs.Tracks.{trail_sum}
use Rattle.linspace.proofs.track.trail_on.Goals as goal

pub returns : goal.returns
unfolding neg of_bits
returns c =
    let s = c.args in
    let one : (s.y.gone + s.share) / 1099511627776 - s.y.k ≤ 1 = omega arith in
    record { gone_on = refl; whole = refl; sum = trail_sum s.d s.y.x (search rules) ((s.y.gone + s.share) / 1099511627776 - s.y.k) one }
