-- 02 (m): a value is placed on the film, and its pixel is read. How far what is read can be from the value, on a real axis whose ends are whole numbers,
-- as the value is. Assumes nothing.
use Rattle.std.specs.Prelude.{◌≡◌, true, false, ℕ, ◌+◌, ◌*◌, ◌≤◌, ◌<◌, ℤ, pos, nat_abs, ◌-ℤ◌, ◌*ℤ◌, Float}
use Rattle.std.specs.Float.Ieee as Ieee
use Rattle.std.specs.Float.{nan, inf, fin, binary64}
use Rattle.std.specs.Float.Ieee.{up, down}
use Rattle.ranged1d.specs.Answer.{given}
use Rattle.ranged1d.specs.Admitted.{ends_admitted, limit_admitted}
use Rattle.ranged1d.specs.declared.Limit.{Limit}
use Rattle.rounding.specs.Within.{signed}
use Rattle.real.specs.Place.{real_place}
use Rattle.real.specs.Reading.{outside, real_reading}
use Rattle.real.specs.Exact.{pixels, distance}

-- the float x is the whole number z; of 0 with either sign
abbrev pub IsWhole : Float → ℤ → Type 0
IsWhole x z = Ieee.eq x (Ieee.of_int binary64 z) ≡ true

-- n times the exact distance from x to z stands to d in the relation R. A finite x is the fraction ±(m * up e) / down e, so the distance
-- has that denominator, by which both sides are multiplied: no operation in it is rounded. Of a NaN or an infinity it is false.
abbrev pub Away : (ℕ → ℕ → Type 0) → ℕ → Float → ℤ → ℕ → Type 0
Away R n nan z d = ⊥
Away R n (inf s) z d = ⊥
Away R n (fin s m e) z d = R (nat_abs (signed s (m * up e) -ℤ z *ℤ pos (down e)) * n) (d * down e)

-- The value has a place, there something is read, neither none nor a refusal, and its distance from the value, times the film's length, is
-- at most one more than the axis's. It is even less than the axis's.
pub record ReadBack (fa fb fv : Float) (a b v : ℤ) (limit : Limit) : Type 0 where
  pub place : ℤ
  pub placed : real_place fa fb fv limit ≡ given place
  pub reading : Float
  pub read : real_reading fa fb place limit ≡ given reading
  pub near : Away ◌≤◌ (pixels limit) reading v (distance a b + 1)
  pub nearer : Away ◌<◌ (pixels limit) reading v (distance a b)

-- The theorem, which `read_back` of proofs/Stray proves: for ends a and b within the bound of whole ends, which differ, for a value v that
-- is neither below both nor above both, and for admitted limits that differ.
abbrev pub Stray : Type 0
Stray =
    (fa fb fv : Float) (a b v : ℤ) (limit : Limit) → IsWhole fa a → IsWhole fb b → IsWhole fv v → ends_admitted a b ≡ true → (a ≡ b → ⊥) → outside v a b ≡ false
    → limit_admitted limit ≡ true → (limit.0 ≡ limit.1 → ⊥) → ReadBack fa fb fv a b v limit
