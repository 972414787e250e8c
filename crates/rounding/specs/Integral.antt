-- IEEE 754's round to integral, at either width: down, up, and to the nearest with a half going away from zero. That the program works these out
-- itself is 01 "What stays of plotters, and what is written anew"; they serve 01 "Places on the film" and 01 "Whole reading, segments, real labels".
-- Assumes nothing.
use Rattle.std.specs.Prelude.{ℕ, suc, ◌+◌, ◌*◌, ◌/◌, ◌%◌, Bool, true, false, cond, ℤ, ◌==◌, Float}
use Rattle.std.specs.Float.{nan, inf, fin, Format, binary32, binary64}
use Rattle.std.specs.Float.Ieee.{up, down, round}

-- the three ways to a whole number: to the one at or below, to the one at or above, and to the nearest, a half going away from zero
pub data Way : Type 0 where
  floors ceils halves : Way

-- the whole number at the fraction n / d, or next below it
abbrev pub lower : ℕ → ℕ → ℕ
lower n d = n / d

-- the one at it, or next above it
abbrev pub upper : ℕ → ℕ → ℕ
upper n d = cond (n % d == 0) (n / d) (suc (n / d))

-- the one nearest to it, of two that are as near the larger: n / d + 1 / 2, cut
abbrev pub near : ℕ → ℕ → ℕ
near n d = (2 * n + d) / (2 * d)

-- The size of the answer for the number of sign s and size n / d: of a negative number the floor is the larger size, and the ceiling the smaller.
abbrev pub sized : Way → Bool → ℕ → ℕ → ℕ
sized floors false = lower
sized floors true = upper
sized ceils false = upper
sized ceils true = lower
sized halves s = near

-- m * 2 ^ e has no fraction
abbrev pub is_whole : ℕ → ℤ → Bool
is_whole m e = m * up e % down e == 0

-- A number without a fraction is its own answer, so both zeros, and all numbers from 2 ^ 52 on (2 ^ 23 of an f32), are unchanged, as are NaN and the
-- infinities. Any other keeps its sign, also where the answer is a zero, and its size goes to a whole number next to it. That one is at most
-- 2 ^ 52 (2 ^ 23), which the format holds, so `round` only writes it down.
unfoldable pub integral : Format → Way → Float → Float
integral f w nan = nan
integral f w (inf s) = inf s
integral f w (fin s m e) = cond (is_whole m e) (fin s m e) (round f s (sized w s (m * up e) (down e)) 1)

-- Rust's f64::floor
abbrev pub floor_of : Float → Float
floor_of x = integral binary64 floors x

-- Rust's f64::ceil
abbrev pub ceil_of : Float → Float
ceil_of x = integral binary64 ceils x

-- Rust's f64::round
abbrev pub round_of : Float → Float
round_of x = integral binary64 halves x

-- Rust's f32::round
abbrev pub round_of32 : Float → Float
round_of32 x = integral binary32 halves x
