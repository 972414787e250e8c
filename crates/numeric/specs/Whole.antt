-- 01 "Whole reading, segments, real labels": the count of a whole axis with the ends a and b, the index of a value, the value at an
-- index, and the value that a pixel is read as. An end or a value that is not admitted is refused with 1, a pixel or a limit with 2.
-- Assumes nothing.
use Rattle.std.specs.Prelude.{ℕ, ◌+◌, Bool, cond, not, ◌&&◌, List, [], ◌∷◌, leb, ℤ, pos, nat_abs, ◌+ℤ◌, ◌-ℤ◌}
use Rattle.std.specs.Int.Signed.{lt_z}
use Rattle.ranged1d.specs.Answer.{Answer, given, none, ◌when◌, lowest, Reason}
use Rattle.ranged1d.specs.Admitted.{whole_admitted, reading_admitted}
pub use Rattle.ranged1d.specs.Admitted.{ends_admitted}
use Rattle.ranged1d.specs.declared.Limit.{Limit}
use Rattle.discrete.specs.Index.{no_index, index_by}

-- ---- `size`: an axis that descends has no value; any other has its two ends and all between them
unfoldable pub count_of : ℤ → ℤ → ℕ
count_of a b = cond (lt_z b a) 0 (nat_abs (b -ℤ a) + 1)

unfoldable pub whole_size : ℤ → ℤ → Answer ℕ
whole_size a b = lowest (1 when not (ends_admitted a b) ∷ []) (given (count_of a b))

-- ---- `index_of`: how far v lies past a, also where that is past b; none before a
abbrev pub index_from : ℤ → ℤ → Answer ℕ
index_from a v = cond (lt_z v a) none (given (nat_abs (v -ℤ a)))

unfoldable pub whole_index_of : ℤ → ℤ → ℤ → Answer ℕ
whole_index_of a b v = lowest (1 when not (ends_admitted a b && whole_admitted v) ∷ []) (index_from a v)

-- ---- `from_index`: what lies k past a, also where that is past b. None where k is above the largest i32; 10 where k is not and what
-- lies there is.
abbrev pub is_index : ℕ → Bool
is_index k = leb k 2_147_483_647

abbrev pub above_i32 : ℤ → ℕ → Bool
above_i32 a k = is_index k && lt_z (pos 2_147_483_647) (a +ℤ pos k)

abbrev pub value_at : ℤ → ℕ → Answer ℤ
value_at a k = cond (is_index k) (given (a +ℤ pos k)) none

unfoldable pub value_from : ℤ → ℕ → Answer ℤ
value_from a k = lowest (10 when above_i32 a k ∷ []) (value_at a k)

abbrev pub from_index_reasons : ℤ → ℤ → ℕ → List Reason
from_index_reasons a b k = 1 when not (ends_admitted a b) ∷ 10 when above_i32 a k ∷ []

unfoldable pub whole_from_index : ℤ → ℤ → ℕ → Answer ℤ
whole_from_index a b k = lowest (from_index_reasons a b k) (value_at a k)

-- ---- `unmap`: none where the pixel has no index, which is where it lies above limits that meet and the axis has a value; else the
-- value at its index
abbrev pub no_reading : ℤ → ℤ → ℤ → Limit → Bool
no_reading a b x l = no_index (x -ℤ l.0) (l.1 -ℤ l.0) (count_of a b)

abbrev pub read_index : ℤ → ℤ → ℤ → Limit → ℕ
read_index a b x l = index_by (x -ℤ l.0) (l.1 -ℤ l.0) (count_of a b)

abbrev pub reading_reasons : ℤ → ℤ → ℤ → Limit → List Reason
reading_reasons a b x l =
    1 when not (ends_admitted a b)
    ∷ 2 when not (reading_admitted x l)
    ∷ 10 when (not (no_reading a b x l) && above_i32 a (read_index a b x l))
    ∷ []

unfoldable pub whole_reading : ℤ → ℤ → ℤ → Limit → Answer ℤ
whole_reading a b x l = lowest (reading_reasons a b x l) (cond (no_reading a b x l) none (value_at a (read_index a b x l)))
