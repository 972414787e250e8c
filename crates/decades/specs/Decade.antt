-- 02 (d): the decade of a number is the greatest of the table's powers of ten that is not above it. Assumes nothing.
use Rattle.std.specs.Prelude.{ℕ, zero, suc, Bool, cond, Float}
use Rattle.std.specs.Float.Ieee.{le}
use Rattle.decades.specs.Powers.{size, power}
use Rattle.decades.specs.declared.Power.{Power}

-- the last of 0, 1, .., n − 1 that passes the test; 0 where none does
unfoldable pub last_of : (ℕ → Bool) → ℕ → ℕ
last_of p zero = 0
last_of p (suc n) = cond (p n) n (last_of p n)

-- entry k is not above x
abbrev pub reached : Float → ℕ → Bool
reached x k = le (power k) x

-- Which entry is the decade of x: the last that is not above x, which is the greatest, as entries rise (`greatest` of proofs/Decades). Where every entry is
-- above x, and for a NaN, it is the first.
unfoldable pub decade_index : Float → ℕ
decade_index x = last_of (reached x) size

-- what the call gives: which entry, and the entry itself
unfoldable pub decade_of : Float → Power
decade_of x = record { index = decade_index x; value = power (decade_index x) }
