-- 02 (g): a whole axis read by the way it runs. An axis that descends has values too, counted downward from a; one that does not is read as 01 has it.
-- Assumes nothing.
use Rattle.std.specs.Prelude.{◌≡◌, Bool, false, cond, not, ◌&&◌, List, [], ◌∷◌, ℕ, ◌+◌, eqb, ℤ, pos, negsuc, neg_ℤ, nat_abs, ◌+ℤ◌, ◌-ℤ◌}
use Rattle.std.specs.Int.Signed.{lt_z}
use Rattle.ranged1d.specs.Answer.{Answer, given, none, refused, ◌when◌, lowest, Reason}
use Rattle.ranged1d.specs.Admitted.{ends_admitted, reading_admitted}
use Rattle.ranged1d.specs.declared.Limit.{Limit}
use Rattle.discrete.specs.Index.{no_index, index_by}
use Rattle.real.specs.Mirror.{mirrored}
use Rattle.numeric.specs.Whole.{is_index, whole_reading}

-- ---- how many values: both ends and all between them, whichever of them is the larger
abbrev pub directed_count : ℤ → ℤ → ℕ
directed_count a b = nat_abs (b -ℤ a) + 1

-- ---- the value that index k stands for: k below a where the axis descends, else k above a; past b too
unfoldable pub directed_value : ℤ → ℤ → ℕ → ℤ
directed_value a b k = cond (lt_z b a) (a -ℤ pos k) (a +ℤ pos k)

-- none where k is above the largest i32; where it is not, 10 if the value is above that too, and 19 if it is below minus that
abbrev pub too_high : ℤ → ℤ → ℕ → Bool
too_high a b k = is_index k && lt_z (pos 2_147_483_647) (directed_value a b k)

abbrev pub too_low : ℤ → ℤ → ℕ → Bool
too_low a b k = is_index k && lt_z (directed_value a b k) (negsuc 2_147_483_646)

abbrev pub directed_at : ℤ → ℤ → ℕ → Answer ℤ
directed_at a b k = cond (is_index k) (given (directed_value a b k)) none

unfoldable pub directed_from : ℤ → ℤ → ℕ → Answer ℤ
directed_from a b k = lowest (10 when too_high a b k ∷ 19 when too_low a b k ∷ []) (directed_at a b k)

-- ---- the call: the pixel's index is that of `unmap`, by this count
abbrev pub unread : ℤ → ℤ → ℤ → Limit → Bool
unread a b x l = no_index (x -ℤ l.0) (l.1 -ℤ l.0) (directed_count a b)

abbrev pub index : ℤ → ℤ → ℤ → Limit → ℕ
index a b x l = index_by (x -ℤ l.0) (l.1 -ℤ l.0) (directed_count a b)

abbrev pub directed_reasons : ℤ → ℤ → ℤ → Limit → List Reason
directed_reasons a b x l =
    1 when not (ends_admitted a b)
    ∷ 2 when not (reading_admitted x l)
    ∷ 10 when (not (unread a b x l) && too_high a b (index a b x l))
    ∷ 19 when (not (unread a b x l) && too_low a b (index a b x l))
    ∷ []

unfoldable pub whole_directed : ℤ → ℤ → ℤ → Limit → Answer ℤ
whole_directed a b x l = lowest (directed_reasons a b x l) (cond (unread a b x l) none (directed_at a b (index a b x l)))

-- ---- what may be relied on
-- the answer for the mirrored axis: the value negated, none for none, 10 and 19 for each other, and any other refusal as it is
abbrev pub exchanged : ℕ → ℕ
exchanged n = cond (eqb n 10) 19 (cond (eqb n 19) 10 n)

abbrev pub negated_reading : Answer ℤ → Answer ℤ
negated_reading (given v) = given (neg_ℤ v)
negated_reading none = none
negated_reading (refused n) = refused (exchanged n)

-- `directed` of proofs/Directed proves it.
pub record Directed : Type 0 where
  -- on an axis that does not descend, the reading is that of `unmap` on every input
  pub ascending : (a b x : ℤ) (l : Limit) → lt_z b a ≡ false → whole_directed a b x l ≡ whole_reading a b x l
  -- with ends that differ and limits that differ, the mirrored axis at the negated pixel answers the negated_reading
  pub mirror : (a b x : ℤ) (l : Limit) → (a ≡ b → ⊥) → (l.0 ≡ l.1 → ⊥) → whole_directed (neg_ℤ a) (neg_ℤ b) (neg_ℤ x) (mirrored l) ≡ negated_reading (whole_directed a b x l)
