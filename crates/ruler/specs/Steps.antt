-- What private functions ask for and promise on the way to the rules: no part of the rules. Assumes nothing.
use Rattle.std.specs.Prelude.{ℕ, zero, suc, ◌+◌, ◌*◌, ◌%◌, ◌≤◌, Bool, true, cond, ◌&&◌, List, [], ◌∷◌, ◌++◌, map, length, take, drop, ℤ, nat_lt, Option, Some, None}
use Rattle.numeric.specs.declared.KeyPoints.{KeyPoints}
use Rattle.numeric.specs.Marks.{list_of}
use Rattle.numeric.specs.Calls.{plan_with, element}
use Rattle.decimal.specs.Read.{same_bytes}
use Rattle.ruler.specs.declared.Draft.{Draft}
use Rattle.ruler.specs.declared.Drawing.{Drawing}
use Rattle.ruler.specs.declared.Twist.{Twist}
use Rattle.ruler.specs.declared.Form.{Form}
use Rattle.ranged1d.specs.Answer.{Answer, given, ◌when◌, lowest}
use Rattle.ranged1d.specs.Numbers.{same}
use Rattle.ranged1d.specs.declared.Limit.{Limit}
use Rattle.ruler.specs.declared.Part.{Part}
use Rattle.ruler.specs.Bytes.{word, word_at, head_long, Record, axis, joined}
use Rattle.ruler.specs.Rule.{no_ruler, ruler_plan_by, form_in, a_in, b_in, limit_in, m_in, mark_at, bytes_by, has_ruler, marks_in, index_of, has_mark, record_at}

-- the four bytes of a list at a place
abbrev pub four : ℕ → List ℕ → List ℕ
four at l = take 4 (drop at l)

-- a draft with its twist, and the form of its ruler
abbrev pub drawing : Draft → Twist → Drawing
drawing d t = record { draft = d; twist = t }

abbrev pub form_of : Drawing → Form
form_of d = record { choice = d.draft.choice; twist = d.twist }

-- its plan, the axis's record, that of the mark v, and those of the first n marks, one behind another
abbrev pub plan_for : Drawing → Answer KeyPoints
plan_for d = ruler_plan_by (form_of d) d.draft.a d.draft.b d.draft.limit d.draft.m

abbrev pub axis_of : Drawing → ℤ → Record
axis_of d s = axis (form_of d) d.draft.a d.draft.b d.draft.limit d.draft.m s

abbrev pub mark_of : Draft → ℤ → Record
mark_of d = mark_at d.a d.b d.limit

abbrev pub marks_laid : Draft → KeyPoints → ℕ → List ℕ
marks_laid d p n = joined (map (mark_at d.a d.b d.limit) (list_of (element p.first p.step) n))

-- the first n records of a ruler: the axis's, then those of marks
unfoldable pub first_of : Drawing → KeyPoints → ℕ → List Record
first_of d p zero = []
first_of d p (suc n) =
    axis_of d p.step
    ∷ map (mark_of d.draft) (list_of (element p.first p.step) n)

-- why a ruler with an unknown twist is not written to so many bytes
unfoldable pub no_twist : Form → ℤ → ℤ → Limit → ℕ → ℕ → Answer (ℕ × ℕ)
no_twist f a b limit m room = lowest (no_ruler a b limit m ++ (13 when nat_lt room (length (bytes_by f a b limit m)) ∷ 15 when true ∷ [])) (given (0, 0))

-- a place in a list of n entries, if it is one
abbrev pub index_within : ℕ → ℕ → Option ℕ
index_within n k = cond (nat_lt k n) (Some k) None

-- where the record of v lies, if v is a mark
unfoldable pub record_found : List ℕ → ℤ → Option Part
record_found l v = cond (has_mark l v) (Some (record_at (head_long (form_in l)) (index_of v (marks_in l)))) None

-- a part lies within the bytes
abbrev pub Inside : List ℕ → Part → Type 0
Inside l r = (r.start ≤ r.end) × (r.end ≤ length l)

-- whether bytes are the ruler d; the ruler d, if they are
abbrev pub is_by : List ℕ → Drawing → Bool
is_by l d = has_ruler d.draft.a d.draft.b d.draft.limit d.draft.m && same_bytes l (bytes_by (form_of d) d.draft.a d.draft.b d.draft.limit d.draft.m)

unfoldable pub seen_by : List ℕ → Drawing → Option (Drawing × KeyPoints)
seen_by l d = cond (is_by l d) (Some (d, plan_with d.draft.choice d.draft.a d.draft.b d.draft.m)) None

abbrev pub drawing_in : List ℕ → Drawing
drawing_in l = record { draft = record { a = a_in l; b = b_in l; limit = limit_in l; m = m_in l; choice = (form_in l).choice }; twist = (form_in l).twist }

-- the ruler that bytes are
abbrev pub seen_of : List ℕ → Option (Drawing × KeyPoints)
seen_of l = seen_by l (drawing_in l)

-- ---- 02 (i): numbers in bytes that are added to where they stand
-- the four bytes of x at a place
abbrev pub put_word : ℕ → ℕ → List ℕ → List ℕ
put_word at x l = take at l ++ (word x ++ drop (at + 4) l)

-- the number at a place, n further on, by 32 bits
abbrev pub added_at : ℕ → ℕ → List ℕ → List ℕ
added_at n at l = put_word at ((word_at l at + n) % 4294967296) l

-- the places in the first k records of marks, behind h bytes
abbrev pub added_to_places : ℕ → ℕ → ℕ → List ℕ → List ℕ
added_to_places n h zero l = l
added_to_places n h (suc k) l = added_at n (h + 20 * k + 5) (added_to_places n h k l)

-- the limits of a ruler with k marks, and their places, unless its ends are equal
abbrev pub added_to_film : Drawing → ℕ → ℕ → List ℕ → List ℕ
added_to_film d k n l =
    let limits = added_at n 13 (added_at n 9 l) in
    cond (same d.draft.a d.draft.b) limits (added_to_places n (head_long (form_of d)) k limits)
