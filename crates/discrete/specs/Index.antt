-- 01 "Whole reading, segments, real labels": the index k that a pixel x is read as, on an axis with n values and the film limits p
-- and q. It rests on two distances, d = x − p and w = q − p. Assumes nothing.
use Rattle.std.specs.Prelude.{ℕ, zero, suc, ◌/◌, Bool, true, false, cond, not, ◌&&◌, [], ◌∷◌, ltb, ℤ, pos, negsuc, ◌-ℤ◌, ◌*ℤ◌}
use Rattle.std.specs.Int.Signed.{lt_z}
use Rattle.ranged1d.specs.Answer.{Answer, given, none, ◌when◌, lowest}
use Rattle.ranged1d.specs.Admitted.{reading_admitted}
use Rattle.ranged1d.specs.declared.Limit.{Limit}
use Rattle.ranged1d.specs.Numbers.{raised}

-- ---- z ÷ w for w ≠ 0, rounded down, by the signs: of unlike ones, −(a + 1) ÷ b is rounded down to −(c + 1), with c the whole part of
-- a ÷ b. `floor-rest` and `floor-negated` of proofs/Floor say that this is the floor.
unfoldable pub floor_div : ℤ → ℤ → ℤ
floor_div (pos a) (pos b) = pos (a / b)
floor_div (negsuc a) (pos b) = negsuc (a / b)
floor_div (pos zero) (negsuc b) = pos 0
floor_div (pos (suc a)) (negsuc b) = negsuc (a / suc b)
floor_div (negsuc a) (negsuc b) = pos (suc a / suc b)

-- ---- the rule. Limits that meet: there is no index for a pixel above them, if the axis has a value; every other pixel has index 0.
abbrev pub is_zero : ℤ → Bool
is_zero (pos zero) = true
is_zero (pos (suc n)) = false
is_zero (negsuc n) = false

unfoldable pub no_index : ℤ → ℤ → ℕ → Bool
no_index d w n = is_zero w && (lt_z (pos 0) d && ltb 0 n)

-- limits that do not: d · n ÷ w rounded down, raised to 0 if that is below
unfoldable pub index_by : ℤ → ℤ → ℕ → ℕ
index_by d w n = cond (is_zero w) 0 (raised (floor_div (d *ℤ pos n) w))

unfoldable pub index_for : ℤ → ℤ → ℕ → Answer ℕ
index_for d w n = cond (no_index d w n) none (given (index_by d w n))

-- ---- `pixel_index`: 2 where the pixel or a limit is not admitted; else the index of x between p and q, if there is one
unfoldable pub pixel_index : ℤ → Limit → ℕ → Answer ℕ
pixel_index x l n = lowest (2 when not (reading_admitted x l) ∷ []) (index_for (x -ℤ l.0) (l.1 -ℤ l.0) n)
