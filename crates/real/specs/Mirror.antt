-- 01 "Mirroring, real reading, stepped axes": what the mirror theorem says of places and of real readings. It is stated over the rules
-- that the calls promise. `mirror` of proofs/Mirror proves `Mirrored limit` of all limits. Assumes nothing.
use Rattle.std.specs.Prelude.{◌≡◌, true, ◌⊎◌, ℤ, neg_ℤ, Float}
use Rattle.std.specs.Float.Ieee as Ieee
use Rattle.std.specs.Float.{nan}
use Rattle.std.specs.Float.Ieee.{neg}
use Rattle.ranged1d.specs.Answer.{Answer, given, and_then, Paired}
use Rattle.ranged1d.specs.declared.Limit.{Limit}
use Rattle.real.specs.Place.{real_place, whole_place}
use Rattle.real.specs.Reading.{real_reading}

-- the mirror of limits
abbrev pub mirrored : Limit → Limit
mirrored l = record { 0 = neg_ℤ l.0; 1 = neg_ℤ l.1 }

-- the mirror of an answered place; a refusal keeps its number
abbrev pub negated : Answer ℤ → Answer ℤ
negated r = and_then r (λ z. given (neg_ℤ z))

-- when two values count as equal: a NaN equals a NaN, and IEEE 754's equality has a zero of either sign equal the other
abbrev pub Same : Float → Float → Type 0
Same x y = ((x ≡ nan) × (y ≡ nan)) ⊎ (Ieee.eq x y ≡ true)

-- a reading and that of the mirror: a value and its negation, or none of both, or both refused with one number
abbrev pub Opposite : Answer Float → Answer Float → Type 0
Opposite x y = Paired (λ (v w : Float). Same v (neg w)) x y

-- ---- the statement
pub record Mirrored (limit : Limit) : Type 0 where
  -- On a real axis, with ends and value negated, the place is negated or the refusal the same: of all floats, NaN and the infinities too.
  pub real_places : (a b v : Float) → real_place (neg a) (neg b) (neg v) (mirrored limit) ≡ negated (real_place a b v limit)
  -- On a whole axis likewise, whose zero has no sign.
  pub whole_places : (a b v : ℤ) → whole_place (neg_ℤ a) (neg_ℤ b) (neg_ℤ v) (mirrored limit) ≡ negated (whole_place a b v limit)
  -- A real reading at the negated pixel is the negation, or both are none or refused alike.
  pub readings : (a b : Float) (x : ℤ) → Opposite (real_reading (neg a) (neg b) (neg_ℤ x) (mirrored limit)) (real_reading a b x limit)
