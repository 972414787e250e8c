-- What `map` and `unmap` answer, case by case as the code has them. Assumes nothing.
use Rattle.std.specs.Prelude.{Some, None}
use Rattle.std.proofs.Common.{◌≡◌, ◌≤◌, true, false, ℤ, nat_abs, ◌-ℤ◌, subst, arith, to_z, of_z, to_z-of_z, w32, w64, SFits, leb-true}
use mathlib.Core.Bool.{and-false}
use mir.Facts.{sfits_widen}
use lib.Ieee.{Float}
use Rattle.ranged1d.specs.Answer.{given, none, refused}
use Rattle.ranged1d.specs.declared.Limit.{Limit}
use Rattle.ranged1d.specs.Admitted.{pixel_admitted, limit_admitted}
use Rattle.ranged1d.proofs.Whole.{fits32, minus-far, same_yes, same_no}
use Rattle.real.specs.Place.{spot, number, real_place}
use Rattle.real.specs.Reading.{outside, offset, value_at, real_reading}
use Rattle.real.proofs.Cases.{near-limits, inside-admitted}
use Rattle.real.proofs.Placed.{spot-near, real_answered}

-- ---- a place
module _ (a b v : Float) (limit : Limit) where
  pub no_limit : limit_admitted limit ≡ false → real_place a b v limit ≡ refused 2
  unfolding real_place
  no_limit h = rw h

  pub too_far : limit_admitted limit ≡ true → spot a b v limit ≡ None → real_place a b v limit ≡ refused 5
  unfolding real_place
  too_far h e = rw (h, e)

  module _ (z : ℤ) (h : limit_admitted limit ≡ true) (e : spot a b v limit ≡ Some z) where
    near : nat_abs z ≤ 1_001_000_000
    near = subst (λ w. nat_abs (number w) ≤ 1_001_000_000) e (spot-near a b v limit h)

    z32 : SFits w32 z
    z32 = fits32 z (omega (arith, near))

    z64 : to_z w64 (of_z w64 z) ≡ z
    z64 = to_z-of_z {w = w64} (sfits_widen {w = w32} {w' = w64} {z = z} tt z32)

    pub spot_fits : SFits w32 (to_z w64 (of_z w64 z))
    spot_fits = rw z64 z32

    pub spot_given : real_place a b v limit ≡ given (to_z w32 (of_z w32 (to_z w64 (of_z w64 z))))
    spot_given = rw (z64, to_z-of_z z32) (real_answered a b v limit h e)

pub ruleset places = (no_limit, too_far, spot_fits, spot_given)

-- ---- a reading
module _ (a b : Float) (x : ℤ) (limit : Limit) where
  pub not_read : limit_admitted limit ≡ false → real_reading a b x limit ≡ refused 2
  unfolding real_reading
  not_read h = rw (h, and-false (pixel_admitted x))

  pub no_pixel : pixel_admitted x ≡ false → real_reading a b x limit ≡ refused 2
  unfolding real_reading
  no_pixel h = rw h

  module _ (h : limit_admitted limit ≡ true) where
    pub off_film : pixel_admitted x ≡ true → outside x limit.0 limit.1 ≡ true → real_reading a b x limit ≡ none
    unfolding real_reading
    off_film g e = rw (h, g, e)

    module _ (e : outside x limit.0 limit.1 ≡ false) where
      on_film : pixel_admitted x ≡ true
      on_film = inside-admitted x limit h e

      pub no_length : limit.0 ≡ limit.1 → real_reading a b x limit ≡ none
      unfolding real_reading
      no_length s = rw (h, on_film, e, same_yes limit.0 limit.1 s)

      pub at_pixel : (limit.0 ≡ limit.1 → ⊥) → real_reading a b x limit ≡ given (value_at a b (offset x limit.0 limit.1))
      unfolding real_reading
      at_pixel n = rw (h, on_film, e, same_no limit.0 limit.1 n)

      pub from_first : SFits w32 (x -ℤ limit.0)
      from_first = fits32 (x -ℤ limit.0) (omega (arith, minus-far x limit.0, leb-true (nat_abs x) 1_000_000 on_film, (near-limits limit h).0))
