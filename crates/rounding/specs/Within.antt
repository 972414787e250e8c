-- Floor, ceiling and rounding as a whole number within a bound: the whole steps of 01 "Places on the film", and the margin of
-- 01 "Whole reading, segments, real labels". Assumes nothing.
use Rattle.std.specs.Prelude.{ℕ, ◌*◌, ◌≤◌, Bool, true, false, cond, ℤ, pos, neg_ℤ, nat_le, unsigned_abs, Float, Option, Some, None}
use Rattle.std.specs.Float.{nan, inf, fin}
use Rattle.std.specs.Float.Ieee.{up, down}
use Rattle.rounding.specs.Integral.{Way, floors, ceils, halves, sized}

-- the whole number of a sign and a size
abbrev pub signed : Bool → ℕ → ℤ
signed false k = pos k
signed true k = neg_ℤ (pos k)

-- the whole number that a way leads to; where there is none, at a NaN and at an infinity, this is 0
unfoldable pub whole_of : Way → Float → ℤ
whole_of w nan = pos 0
whole_of w (inf s) = pos 0
whole_of w (fin s m e) = signed s (sized w s (m * up e) (down e))

-- z, if its size is at most b, and otherwise that it is beyond
abbrev pub kept : ℕ → ℤ → Option ℤ
kept b z = cond (nat_le (unsigned_abs z) b) (Some z) None

-- The answer within b of zero, or that there is none. An infinity is beyond every bound. A NaN counts as 0, as where Rust casts a float to a whole number.
unfoldable pub within : Way → ℕ → Float → Option ℤ
within w b nan = Some (pos 0)
within w b (inf s) = None
within w b (fin s m e) = kept b (whole_of w (fin s m e))

-- the greatest whole number that is at most x, if within b
abbrev pub floor_within : ℕ → Float → Option ℤ
floor_within b x = within floors b x

-- the least whole number that is at least x, if within b
abbrev pub ceil_within : ℕ → Float → Option ℤ
ceil_within b x = within ceils b x

-- the whole number nearest to x, a half going away from zero, if within b; of an f32 as of an f64, since it asks for no format
abbrev pub round_within : ℕ → Float → Option ℤ
round_within b x = within halves b x

-- x is finite and at most C in size
abbrev pub AtMost : ℕ → Float → Type 0
AtMost C nan = ⊥
AtMost C (inf s) = ⊥
AtMost C (fin s m e) = m * up e ≤ C * down e
