use Rattle.std.proofs.Common.{refl, rules}
use lib.Ieee.{neg, of_bits}
use Rattle.linspace.proofs.track.track_at.Goals as goal

pub returns-then-rises : goal.returns-then-rises
unfolding neg of_bits
returns-then-rises c = rw c.if-rises.true record { fit = search rules; low_is = refl; high_is = refl; raise_is = refl; lower_is = refl }

pub returns : goal.returns
unfolding neg of_bits
returns c = rw c.if-rises.false record { fit = search rules; low_is = refl; high_is = refl; raise_is = refl; lower_is = refl }
