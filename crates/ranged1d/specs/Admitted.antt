-- 01 "What stays of plotters, and what is written anew": which numbers are admitted. Assumes nothing.
use Rattle.std.specs.Prelude.{ℕ, Bool, ◌&&◌, leb, ℤ, nat_abs}
use Rattle.ranged1d.specs.declared.Limit.{Limit}

-- whole ends, values and steps: at most 1,000,000,000 away from zero
abbrev pub whole_admitted : ℤ → Bool
whole_admitted z = leb (nat_abs z) 1_000_000_000

-- both ends of a whole axis
abbrev pub ends_admitted : ℤ → ℤ → Bool
ends_admitted a b = whole_admitted a && whole_admitted b

-- ends of an index axis, which has nothing below zero: the same bound
abbrev pub index_admitted : ℕ → Bool
index_admitted k = leb k 1_000_000_000

-- pixels and film limits: at most 1,000,000 away from zero
abbrev pub pixel_admitted : ℤ → Bool
pixel_admitted x = leb (nat_abs x) 1_000_000

-- limits from two numbers
abbrev pub limit_of : ℤ → ℤ → Limit
limit_of p q = record { 0 = p; 1 = q }

abbrev pub limit_admitted : Limit → Bool
limit_admitted l = pixel_admitted l.0 && pixel_admitted l.1

-- a pixel that is to be read, and the limits that it is read by
abbrev pub reading_admitted : ℤ → Limit → Bool
reading_admitted x l = pixel_admitted x && limit_admitted l
