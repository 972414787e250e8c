-- 02 (m) on a whole axis: a needle is placed, and its place is read by the way the axis runs. How far the needle that is read can be from the
-- one that was placed. Assumes nothing.
use Rattle.std.specs.Prelude.{◌≡◌, true, false, ◌+◌, ◌*◌, ◌<◌, ℤ, nat_abs, ◌-ℤ◌}
use Rattle.ranged1d.specs.Answer.{given}
use Rattle.ranged1d.specs.Admitted.{ends_admitted, limit_admitted}
use Rattle.ranged1d.specs.declared.Limit.{Limit}
use Rattle.real.specs.Place.{whole_place}
use Rattle.real.specs.Reading.{outside}
use Rattle.real.specs.Exact.{pixels, distance}
use Rattle.numeric.specs.Directed.{whole_directed}

-- The needle has a place, there something is read, neither none nor a refusal, and its distance from the needle, times the film's length, is less
-- than both lengths together: it is off by less than one needle more than a pixel is worth.
pub record NeedleBack (a b v : ℤ) (limit : Limit) : Type 0 where
  pub place : ℤ
  pub placed : whole_place a b v limit ≡ given place
  pub reading : ℤ
  pub read : whole_directed a b place limit ≡ given reading
  pub near : nat_abs (reading -ℤ v) * pixels limit < distance a b + pixels limit

-- The theorem, which `read_back` of proofs/NeedleBack proves: for ends that are admitted and differ, a needle that is neither below both nor above
-- both, and admitted limits that differ.
abbrev pub NeedleStray : Type 0
NeedleStray =
    (a b v : ℤ) (limit : Limit) → ends_admitted a b ≡ true → (a ≡ b → ⊥) → outside v a b ≡ false → limit_admitted limit ≡ true → (limit.0 ≡ limit.1 → ⊥) → NeedleBack a b v limit
