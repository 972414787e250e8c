-- Rulers: what the writer gives, what the reader takes, and the two look-ups, on every input. 01 "Ruler bytes", with the refusals of 01
-- "Why a call stops"; 02 (a) and (c): the rule is one over the form of a ruler, of which kind 1
-- is 01's. Assumes nothing.
use Rattle.std.specs.Prelude.{ℕ, suc, ◌+◌, ◌-◌, ◌*◌, Bool, true, false, cond, not, ◌&&◌, ltb, List, [], ◌∷◌, ◌++◌, map, length, take, drop, ℤ, pos, ◌==◌, int_lt, nat_lt, slice_index}
use Rattle.ranged1d.specs.Answer.{Answer, given, Reason, ◌when◌, lowest, none_of, written}
use Rattle.ranged1d.specs.Admitted.{ends_admitted, limit_admitted}
use Rattle.ranged1d.specs.Numbers.{same}
use Rattle.ranged1d.specs.declared.Limit.{Limit}
use Rattle.numeric.specs.declared.Choice.{Choice}
use Rattle.numeric.specs.declared.Choice.TheVariants.{Cut, Inside}
use Rattle.numeric.specs.declared.KeyPoints.{KeyPoints}
use Rattle.numeric.specs.Marks.{no_step, step_of, marks_by}
use Rattle.numeric.specs.Calls.{plan_with}
use Rattle.decimal.specs.Print.{decimal}
use Rattle.decimal.specs.Read.{same_bytes}
use Rattle.ruler.specs.declared.Twist.{Twist}
use Rattle.ruler.specs.declared.Twist.TheVariants.{Plain, S, Z}
use Rattle.ruler.specs.declared.Form.{Form}
use Rattle.ruler.specs.declared.Ruler.{Ruler}
use Rattle.ruler.specs.declared.Part.{Part}
use Rattle.ruler.specs.Bytes.{word_at, whole_at, kind_byte, head_long, form_for, Record, axis, mark, laid, joined}
use Rattle.ruler.specs.Place.{place_of}

-- ---- 01 "Ruler bytes": the ruler of an axis
-- the record of the mark v
abbrev pub mark_at : ℤ → ℤ → Limit → ℤ → Record
mark_at a b limit v = mark v (place_of a b limit v)

-- the axis comes first, and then every mark, as the marks are listed
abbrev pub records_by : Form → ℤ → ℤ → Limit → ℕ → List Record
records_by f a b limit m = axis f a b limit m (pos (step_of a b m)) ∷ map (mark_at a b limit) (marks_by f.choice a b m)

unfoldable pub bytes_by : Form → ℤ → ℤ → Limit → ℕ → List ℕ
bytes_by f a b limit m = joined (records_by f a b limit m)

-- the forms of kinds 1 and 3, which have no twist
abbrev pub one : Form
one = record { choice = Cut; twist = Plain }

abbrev pub three : Form
three = record { choice = Inside; twist = Plain }

-- that of either choice: `one` of the cut marks, `three` of those on the axis
abbrev pub plain_form : Choice → Form
plain_form c = record { choice = c; twist = Plain }

-- the records and the bytes of kind 1
abbrev pub records_of : ℤ → ℤ → Limit → ℕ → List Record
records_of a b limit m = records_by one a b limit m

abbrev pub ruler_bytes : ℤ → ℤ → Limit → ℕ → List ℕ
ruler_bytes a b limit m = bytes_by one a b limit m

-- 01 "Why a call stops": why there is no ruler. 1 where an end is not admitted, 2 where a limit is not, 3 where no step serves. 5 is never met:
-- `every-placed` of proofs/Places.
abbrev pub no_ruler : ℤ → ℤ → Limit → ℕ → List Reason
no_ruler a b limit m = 1 when not (ends_admitted a b) ∷ 2 when not (limit_admitted limit) ∷ 3 when no_step a b m ∷ []

-- `write`: 13 where the lent bytes are too few; else the number of bytes and of marks, and the ruler at the start of the lent bytes
abbrev pub write_reasons_by : Form → ℤ → ℤ → Limit → ℕ → List ℕ → List Reason
write_reasons_by f a b limit m old = no_ruler a b limit m ++ (13 when ltb (length old) (length (bytes_by f a b limit m)) ∷ [])

unfoldable pub write_by : Form → ℤ → ℤ → Limit → ℕ → List ℕ → Answer (ℕ × ℕ) × List ℕ
write_by f a b limit m old =
    written (lowest (write_reasons_by f a b limit m old) (given (length (bytes_by f a b limit m), length (marks_by f.choice a b m)))) (bytes_by f a b limit m) old

-- that of kind 1
abbrev pub ruler_write : ℤ → ℤ → Limit → ℕ → List ℕ → Answer (ℕ × ℕ) × List ℕ
ruler_write a b limit m old = write_by one a b limit m old

-- and of kind 3, whose marks stay inside
abbrev pub ruler_write_inside : ℤ → ℤ → Limit → ℕ → List ℕ → Answer (ℕ × ℕ) × List ℕ
ruler_write_inside a b limit m old = write_by three a b limit m old

-- `plan`, the same without memory: the first mark, the step and the count, or the first reason that there is no ruler
unfoldable pub ruler_plan_by : Form → ℤ → ℤ → Limit → ℕ → Answer KeyPoints
ruler_plan_by f a b limit m = lowest (no_ruler a b limit m) (given (plan_with f.choice a b m))

abbrev pub ruler_plan : ℤ → ℤ → Limit → ℕ → Answer KeyPoints
ruler_plan a b limit m = ruler_plan_by one a b limit m

-- ---- 02 (c): rulers with a twist, which the writer is handed as a number, 0 for S and 1 for Z. 15 where it is neither; that comes after 13, for which
-- the twist does not matter, as either takes one byte.
abbrev pub twist_of : ℕ → Twist
twist_of t = cond (t == 0) S Z

abbrev pub twisted : Choice → ℕ → Form
twisted c t = record { choice = c; twist = twist_of t }

abbrev pub twisted_reasons : Choice → ℕ → ℤ → ℤ → Limit → ℕ → List ℕ → List Reason
twisted_reasons c t a b limit m old = write_reasons_by (twisted c t) a b limit m old ++ (15 when ltb 1 t ∷ [])

unfoldable pub twisted_write : Choice → ℕ → ℤ → ℤ → Limit → ℕ → List ℕ → Answer (ℕ × ℕ) × List ℕ
twisted_write c t a b limit m old =
    written (lowest (twisted_reasons c t a b limit m old) (given (length (bytes_by (twisted c t) a b limit m), length (marks_by c a b m)))) (bytes_by (twisted c t) a b limit m) old

abbrev pub ruler_plan_inside : ℤ → ℤ → Limit → ℕ → Answer KeyPoints
ruler_plan_inside a b limit m = ruler_plan_by three a b limit m

-- ---- 01 "Ruler bytes": the reader
-- whether an axis has a ruler: nothing stops the writer but memory
unfoldable pub has_ruler : ℤ → ℤ → Limit → ℕ → Bool
has_ruler a b limit m = none_of (no_ruler a b limit m)

-- the form and the numbers that stand where a ruler has its own
abbrev pub form_in : List ℕ → Form
form_in l = form_for (slice_index l 0) (slice_index l 25)

abbrev pub a_in : List ℕ → ℤ
a_in l = whole_at l 1

abbrev pub b_in : List ℕ → ℤ
b_in l = whole_at l 5

abbrev pub limit_in : List ℕ → Limit
limit_in l = record { 0 = whole_at l 9; 1 = whole_at l 13 }

abbrev pub m_in : List ℕ → ℕ
m_in l = word_at l 17

-- bytes are a ruler if, for the form and the numbers in them, there is one, and it is these very bytes
unfoldable pub is_ruler : List ℕ → Bool
is_ruler l = has_ruler (a_in l) (b_in l) (limit_in l) (m_in l) && same_bytes l (bytes_by (form_in l) (a_in l) (b_in l) (limit_in l) (m_in l))

abbrev pub marks_in : List ℕ → List ℤ
marks_in l = marks_by (form_in l).choice (a_in l) (b_in l) (m_in l)

-- a ruler by its form and its numbers; one of kind 1
abbrev pub read_as : Form → ℤ → ℤ → Limit → ℕ → ℤ → ℕ → Ruler
read_as f a b limit m s n = record { a = a; b = b; limit = limit; m = m; step = s; marks = n; form = f }

abbrev pub ruler_of : ℤ → ℤ → Limit → ℕ → ℤ → ℕ → Ruler
ruler_of a b limit m s n = read_as one a b limit m s n

-- `read`: those numbers, the step, the number of marks, and the form, which gives the kind and the twist; 14 where the bytes are no ruler
unfoldable pub ruler_read : List ℕ → Answer Ruler
ruler_read l =
    lowest (14 when not (is_ruler l) ∷ [])
    (given (read_as (form_in l) (a_in l) (b_in l) (limit_in l) (m_in l) (pos (step_of (a_in l) (b_in l) (m_in l))) (length (marks_in l))))

-- ---- 01 "Ruler bytes": the look-ups
-- where v stands first in a list; the list's length if it does not
abbrev pub index_of : ℤ → List ℤ → ℕ
index_of v [] = 0
index_of v (x ∷ xs) = cond (same x v) 0 (suc (index_of v xs))

-- v is a mark of the ruler l
unfoldable pub has_mark : List ℕ → ℤ → Bool
has_mark l v = is_ruler l && nat_lt (index_of v (marks_in l)) (length (marks_in l))

-- what each look-up returns: the record of v; v in base ten, as its label has it behind the blanks; nothing where v is no mark
abbrev pub record_text : List ℕ → ℤ → List ℕ
record_text l v = cond (has_mark l v) (laid (mark_at (a_in l) (b_in l) (limit_in l) v)) []

abbrev pub label_text : List ℕ → ℤ → List ℕ
label_text l v = cond (has_mark l v) (decimal v) []

-- and where in the bytes that part lies: the record of mark k behind the axis's and k others, a label at the end of its record; an
-- empty part lies at the start
abbrev pub record_at : ℕ → ℕ → Part
record_at h k = record { start = h + 20 * k; end = h + 20 + 20 * k }

abbrev pub label_at : Part → ℤ → Part
label_at r v = record { start = r.end - length (decimal v); end = r.end }

abbrev pub nowhere : Part
nowhere = record { start = 0; end = 0 }

unfoldable pub record_in : List ℕ → ℤ → Part
record_in l v = cond (has_mark l v) (record_at (head_long (form_in l)) (index_of v (marks_in l))) nowhere

unfoldable pub label_in : List ℕ → ℤ → Part
label_in l v = cond (has_mark l v) (label_at (record_in l v) v) nowhere

-- the bytes of a part, and where a reference points that begins n bytes further on
abbrev pub part : Part → List ℕ → List ℕ
part r l = take (r.end - r.start) (drop r.start l)

abbrev pub further : ℕ → ℕ × ℕ → ℕ × ℕ
further n p = (p.0, n + p.1)

-- a pair of rulers: a needle below zero is looked up in the left one, any other in the right one
abbrev pub side_of : {A : Type 0} → ℤ → A → A → A
side_of v left right = cond (int_lt v (pos 0)) left right

-- ---- 02 (c): moving stored rulers over, and back
-- a ruler of the old kinds, 1 and 3, and one of the new, 5 and 6
abbrev pub plain : Twist → Bool
plain Plain = true
plain S = false
plain Z = false

abbrev pub is_z : Twist → Bool
is_z Plain = false
is_z S = false
is_z Z = true

unfoldable pub is_old : List ℕ → Bool
is_old l = is_ruler l && plain (form_in l).twist

unfoldable pub is_twisted : List ℕ → Bool
is_twisted l = is_ruler l && not (plain (form_in l).twist)

-- moved over, a ruler has the new kind, its body and a 0 behind it, for S, and then its marks; moved back, it has the old kind, its body without
-- the twist, and then its marks
abbrev pub with_twist : Twist → Form → Form
with_twist t f = record { choice = f.choice; twist = t }

abbrev pub over : ℕ → List ℕ → List ℕ
over k l = (k ∷ take 24 (drop 1 l)) ++ (0 ∷ drop 25 l)

abbrev pub back : ℕ → List ℕ → List ℕ
back k l = (k ∷ take 24 (drop 1 l)) ++ drop 26 l

unfoldable pub upgraded : List ℕ → List ℕ
upgraded l = over (kind_byte (with_twist S (form_in l))) l

unfoldable pub downgraded : List ℕ → List ℕ
downgraded l = back (kind_byte (with_twist Plain (form_in l))) l

-- `upgrade`: 14 for any bytes but those of an old ruler, whatever is lent; for these 13 where too little is; else the number of bytes
abbrev pub upgrade_reasons : List ℕ → List ℕ → List Reason
upgrade_reasons l old = 13 when (is_old l && nat_lt (length old) (length (upgraded l))) ∷ 14 when not (is_old l) ∷ []

unfoldable pub ruler_upgrade : List ℕ → List ℕ → Answer ℕ × List ℕ
ruler_upgrade l old = written (lowest (upgrade_reasons l old) (given (length (upgraded l)))) (upgraded l) old

-- `downgrade`: the same for those of a new ruler, and 16 where its twist is Z, which would be lost
abbrev pub downgrade_reasons : List ℕ → List ℕ → List Reason
downgrade_reasons l old =
    13 when (is_twisted l && nat_lt (length old) (length (downgraded l)))
    ∷ 14 when not (is_twisted l)
    ∷ 16 when is_z (form_in l).twist
    ∷ []

unfoldable pub ruler_downgrade : List ℕ → List ℕ → Answer ℕ × List ℕ
ruler_downgrade l old = written (lowest (downgrade_reasons l old) (given (length (downgraded l)))) (downgraded l) old
