-- What private walks along a real stepped axis keep. Assumes nothing.
use Rattle.std.specs.Prelude.{ℕ, ◌+◌, ◌-◌, ◌/◌, ◌≡◌, Bool, true, cond, T, pos, Float}
use Rattle.linspace.specs.RealSteps.{plus_step, after, all}
use Rattle.linspace.specs.declared.track.Track.{Track}
use Rattle.linspace.specs.declared.track.Trail.{Trail}
use Rattle.std.specs.Float.{fin, binary64}
use Rattle.std.specs.Float.Ieee.{fits, add}

-- ---- a track that stands at x, on the way to b by the step d: both by size, with what each goes on by. b is a number of the format, so that −0.0
-- added leaves it as it is.
pub record Tracked (rises : Bool) (b d x : Float) (t : Track) : Type 0 where
  pub fit : T (fits binary64 b)
  pub low_is : t.low ≡ cond rises x b
  pub high_is : t.high ≡ cond rises b x
  pub raise_is : t.raise ≡ cond rises d (fin true 0 (pos 0))
  pub lower_is : t.lower ≡ cond rises (fin true 0 (pos 0)) d

abbrev pub head_of : Bool → Track → Float
head_of rises t = cond rises t.low t.high

-- the track r is t one step on
pub record Stepped (t r : Track) : Type 0 where
  pub low_on : r.low ≡ add binary64 t.low t.raise
  pub high_on : r.high ≡ add binary64 t.high t.lower
  pub raise_kept : r.raise ≡ t.raise
  pub lower_kept : r.lower ≡ t.lower

-- ---- the second sum r is y after one more step of the first
pub record Trails (d : Float) (share : ℕ) (y r : Trail) : Type 0 where
  pub gone_on : r.gone ≡ y.gone + share
  pub whole : r.k ≡ r.gone / all
  pub sum : r.x ≡ after (plus_step d) (r.k - y.k) y.x
