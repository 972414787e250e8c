-- 02 (d): the table's numbers, which are the doubles nearest to the powers of ten from −307 to 308. Entry k is for the power k − 307. A reader needs `power`;
-- Nearest says in whole numbers what nearest means, and `power-nearest` of proofs/Values shows it of every entry. Assumes nothing.
use Rattle.std.specs.Prelude.{ℕ, ◌-◌, ◌^◌, false, Float}
use Rattle.std.specs.Float.Ieee as Ieee
use Rattle.std.specs.Float.{binary64}

-- how many there are
abbrev pub size : ℕ
size = 616

-- 10 ^ (k − 307) as a fraction, over k ÷ under k: a difference of naturals that would be below zero is 0
abbrev pub over : ℕ → ℕ
over k = 10 ^ (k - 307)

abbrev pub under : ℕ → ℕ
under k = 10 ^ (307 - k)

-- entry k, for k below 616: that fraction, rounded once by IEEE 754's rule, to the nearest double and of two as near to the even one
unfoldable pub power : ℕ → Float
power k = Ieee.round binary64 false (over k) (under k)
