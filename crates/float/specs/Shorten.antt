-- A number shortened: 01 "Whole reading, segments, real labels", its paragraph on real labels, after `find_minimal_repr` of plotters. Each
-- operation is rounded as in IEEE 754. Assumes nothing.
use Rattle.std.specs.Prelude.{cond, ℕ, zero, suc, ◌^◌, ◌+◌, pos, Float}
use Rattle.std.specs.Float.{binary64}
use Rattle.std.specs.Float.Ieee.{of_bits, of_int, add, sub, mul, div, lt, le}
use Rattle.rounding.specs.Integral.{floor_of, ceil_of}
use Rattle.float.specs.declared.Shortened.{Shortened}

-- 1.0 and 10.0
abbrev pub one : Float
one = of_bits binary64 0x3FF0_0000_0000_0000

abbrev pub ten : Float
ten = of_bits binary64 0x4024_0000_0000_0000

-- the tolerance at the start: 1 over 10 to the power H. The power is a float itself, so only the quotient is rounded.
abbrev pub tolerance : ℕ → Float
tolerance h = div binary64 one (of_int binary64 (pos (10 ^ h)))

-- a number as it is, with no decimals
abbrev pub plain : Float → Shortened
plain x = record { value = x; levels = 0 }

-- ten times the fraction, which is what lies above the floor
abbrev pub inner : Float → Float
inner n = mul binary64 (sub binary64 n (floor_of n)) ten

-- back from a level: a tenth of what was found there, above the floor, and one decimal more
abbrev pub outer : Float → Shortened → Shortened
outer n r = record { value = add binary64 (floor_of n) (div binary64 r.value ten); levels = r.levels + 1 }

-- n by as few decimals as bring it nearer than the tolerance. First it is asked whether the tolerance has reached 1: then n stays as it is. Then whether
-- the floor is nearer than the tolerance, then the ceiling. Otherwise ten times the fraction is shortened, with ten times the tolerance. k counts the
-- levels that are left; from H on it decides nothing, since the tolerance has reached 1 after H levels (`enough` of proofs/Enough).
unfoldable pub shorten : ℕ → Float → Float → Shortened
shorten zero n eps = plain n
shorten (suc k) n eps =
    cond (le one eps) (plain n)
    (cond (lt (sub binary64 n (floor_of n)) eps) (plain (floor_of n))
    (cond (lt (sub binary64 (ceil_of n) n) eps) (plain (ceil_of n))
    (outer n (shorten k (inner n) (mul binary64 eps ten)))))
