-- 02 (d): what it is for a double to be the nearest to a fraction, ties going to the even one. All of it is said in whole numbers, by the double's bits, so
-- that no decimal and no rounding has to be believed. A reader needs `Nearest`; `is_nearest` is the test that the checker computes. Assumes nothing.
use Rattle.std.specs.Prelude.{ℕ, zero, suc, ◌+◌, ◌-◌, ◌*◌, ◌/◌, ◌%◌, ◌^◌, ◌≤◌, ◌≡◌, ◌⊎◌, Bool, cond, ◌&&◌, leb, ltb, eqb}

-- The double with the bits b and no sign, counted in units of the smallest one above zero, 2 ^ -1074. Above the 52 digits t stands the field x of the exponent.
-- A field of 0 adds no digit in front; any other adds one, and doubles the number as often as it is above 1.
abbrev pub scaled : ℕ → ℕ → ℕ
scaled zero t = t
scaled (suc x) t = (2 ^ 52 + t) * 2 ^ x

unfoldable pub value : ℕ → ℕ
value b = scaled (b / 2 ^ 52) (b % 2 ^ 52)

-- how far the double with the bits c lies from n ÷ d, times d and 2 ^ 1074
abbrev pub far : ℕ → ℕ → ℕ → ℕ
far c n d = value c * d - n * 2 ^ 1074 + (n * 2 ^ 1074 - value c * d)

-- The double with the bits b is the nearest to n ÷ d: no bits are those of a nearer one, and where other bits are as near, b is even. Negative doubles have
-- no place here: zero is nearer than each of them.
pub record Nearest (b n d : ℕ) : Type 0 where
  pub none_nearer : (c : ℕ) → far b n d ≤ far c n d
  pub tie_to_even : (c : ℕ) → far c n d ≡ far b n d → (c ≡ b) ⊎ (b % 2 ≡ 0)

-- ---- the test: n ÷ d lies between the middles from this double to the one before it and to the next; on a middle only if b is even. Doubles rise with
-- their bits, so that it says all of `Nearest` (`nearest_of_all` of proofs/Near).
-- x is at most y, or below y where being equal does not count
abbrev pub up_to : Bool → ℕ → ℕ → Bool
up_to equal x y = cond equal (leb x y) (ltb x y)

unfoldable pub is_nearest : ℕ → ℕ → ℕ → Bool
is_nearest b n d =
    up_to (eqb (b % 2) 0) ((value (b - 1) + value b) * d) (2 * n * 2 ^ 1074)
    && up_to (eqb (b % 2) 0) (2 * n * 2 ^ 1074) ((value b + value (b + 1)) * d)
