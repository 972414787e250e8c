-- 01 "Ruler bytes", 02 (a) and (c): how a record is laid out. A whole number is a ℤ, a byte a natural below 256. Assumes nothing.
use Rattle.std.specs.Prelude.{ℕ, ◌+◌, ◌*◌, ◌/◌, ◌%◌, cond, ◌||◌, List, [], ◌∷◌, ◌++◌, length, ℤ, ◌==◌, slice_index}
use Rattle.std.specs.Int.{w32}
use Rattle.std.proofs.Common.{of_z, to_z}
use Rattle.ranged1d.specs.declared.Limit.{Limit}
use Rattle.decimal.specs.Print.{label_of}
use Rattle.numeric.specs.declared.Choice.{Choice}
use Rattle.numeric.specs.declared.Choice.TheVariants.{Cut, Inside}
use Rattle.ruler.specs.declared.Twist.{Twist}
use Rattle.ruler.specs.declared.Twist.TheVariants.{Plain, S, Z}
use Rattle.ruler.specs.declared.Form.{Form}

-- ---- numbers, 01 "Ruler bytes": four bytes, the lowest first. An i32 goes by its 32 bits in two's complement, a u32 as it is.
abbrev pub word : ℕ → List ℕ
word n = n % 256 ∷ n / 256 % 256 ∷ n / 65536 % 256 ∷ n / 16777216 % 256 ∷ []

abbrev pub whole : ℤ → List ℕ
whole z = word (of_z w32 z)

-- the same four bytes read at a place of a list, 0 standing for what is past its end
abbrev pub word_at : List ℕ → ℕ → ℕ
word_at l at = slice_index l at + slice_index l (at + 1) * 256 + slice_index l (at + 2) * 65536 + slice_index l (at + 3) * 16777216

abbrev pub whole_at : List ℕ → ℕ → ℤ
whole_at l at = to_z w32 (word_at l at)

-- ---- records, 01 "Ruler bytes": that of the axis has its ends, limits, mark limit and step; that of a mark its needle and place. The
-- label is no number of its own, as the needle gives it. A ruler's form is which marks follow, and the thread's twist.
pub data Record : Type 0 where
  axis : Form → ℤ → ℤ → Limit → ℕ → ℤ → Record
  mark : ℤ → ℤ → Record

-- the kind, by which a reader knows the length of what follows, and which marks the ruler has: 1 and 5 for those of plotters, 3 and 6 for
-- those that stay on the axis; 5 and 6 have a twist
abbrev pub kind_for : Choice → Twist → ℕ
kind_for Cut Plain = 1
kind_for Cut S = 5
kind_for Cut Z = 5
kind_for Inside Plain = 3
kind_for Inside S = 6
kind_for Inside Z = 6

abbrev pub kind_byte : Form → ℕ
kind_byte f = kind_for f.choice f.twist

-- the twist: 0 for S and 1 for Z, a last byte of the body; none in kinds 1 and 3, where a reader says 0
abbrev pub twist_number : Twist → ℕ
twist_number Plain = 0
twist_number S = 0
twist_number Z = 1

abbrev pub twist_bytes : Twist → List ℕ
twist_bytes Plain = []
twist_bytes S = 0 ∷ []
twist_bytes Z = 1 ∷ []

-- how long the axis's record is
abbrev pub head_long : Form → ℕ
head_long f = 25 + length (twist_bytes f.twist)

-- the form of a ruler with this kind and this twist byte. Numbers that stand for none are read as the first, which does not begin so, or as S, which
-- has another byte there.
abbrev pub choice_for : ℕ → Choice
choice_for k = cond (k == 3 || k == 6) Inside Cut

abbrev pub twist_for : ℕ → ℕ → Twist
twist_for k t = cond (k == 5 || k == 6) (cond (t == 1) Z S) Plain

abbrev pub form_for : ℕ → ℕ → Form
form_for k t = record { choice = choice_for k; twist = twist_for k t }

abbrev pub kind_of : Record → ℕ
kind_of (axis f a b limit m s) = kind_byte f
kind_of (mark v x) = 2

-- the bodies: 24 bytes for the axis, and its twist; 19 for a mark, its label filled with blanks to 11
unfoldable pub axis_body : ℤ → ℤ → Limit → ℕ → ℤ → List ℕ
axis_body a b limit m s = whole a ++ whole b ++ whole limit.0 ++ whole limit.1 ++ word m ++ whole s

unfoldable pub mark_body : ℤ → ℤ → List ℕ
mark_body v x = whole v ++ whole x ++ label_of v

abbrev pub body_of : Record → List ℕ
body_of (axis f a b limit m s) = axis_body a b limit m s ++ twist_bytes f.twist
body_of (mark v x) = mark_body v x

-- a record is its kind and then its body; records stand one behind another
unfoldable pub laid : Record → List ℕ
laid r = kind_of r ∷ body_of r

abbrev pub joined : List Record → List ℕ
joined [] = []
joined (r ∷ rs) = laid r ++ joined rs
