-- The mirror theorem for rulers: demand 3, and 01 "Mirroring, real reading, stepped axes". It is stated over the rules that the calls
-- promise. `mirror` of proofs/Mirror proves `Mirrored f a b limit m` of all f, a, b, limit and m. Assumes nothing.
use Rattle.std.specs.Prelude.{◌≡◌, ℕ, ◌≤◌, true, cond, ◌⊎◌, ◌↔◌, List, [], ◌∷◌, ◌++◌, map, reverse, length, ℤ, pos, neg_ℤ, ◌<ℤ◌, ◌==◌}
use Rattle.ranged1d.specs.Answer.{Answer, given, none, refused, BothLong}
use Rattle.ranged1d.specs.declared.Limit.{Limit}
use Rattle.numeric.specs.declared.Choice.{Choice}
use Rattle.numeric.specs.declared.Choice.TheVariants.{Cut, Inside}
use Rattle.numeric.specs.Marks.{low, high, step_of}
use Rattle.numeric.specs.Mirror.{nearest_zero, Divides, NextTowardZero}
use Rattle.real.specs.Place.{whole_place}
use Rattle.real.specs.Mirror as film
use Rattle.ruler.specs.declared.Twist.{Twist}
use Rattle.ruler.specs.declared.Twist.TheVariants.{Plain, S, Z}
use Rattle.ruler.specs.declared.Form.{Form}
use Rattle.ruler.specs.Bytes.{Record, axis, mark, joined}
use Rattle.ruler.specs.Rule.{no_ruler, bytes_by, write_by, has_ruler, twisted, twisted_write}

-- ---- the words of the statement
-- when a ruler's mirror has the mirrored marks: cut at hi, exactly where the step divides the needle nearest zero; on the axis, always
abbrev pub Matches : Choice → ℤ → ℤ → ℕ → Type 0
Matches Cut a b m = Divides (step_of a b m) (nearest_zero a b)
Matches Inside a b m = Unit {0}

-- mirroring turns S into Z and Z into S; kinds 1 and 3 have no twist to turn
abbrev pub other_twist : Twist → Twist
other_twist Plain = Plain
other_twist S = Z
other_twist Z = S

abbrev pub turned_form : Form → Form
turned_form f = record { choice = f.choice; twist = other_twist f.twist }

-- a record's mirror: the axis's has its ends and limits negated, the other twist, and the same kind, mark limit and step; a mark's has needle and place
-- negated, and so the label of the negated needle, which `laid` writes
abbrev pub negated : Record → Record
negated (axis f a b limit m s) = axis (turned_form f) (neg_ℤ a) (neg_ℤ b) (film.mirrored limit) m s
negated (mark v x) = mark (neg_ℤ v) (neg_ℤ x)

-- a ruler's mirror: the axis's record first, and then the marks' records from the last to the first
abbrev pub turned : List Record → List Record
turned [] = []
turned (r ∷ rs) = negated r ∷ reverse (map negated rs)

-- an answer but for its numbers
pub data Verdict : Type 0 where
  accepted : Verdict
  empty : Verdict
  stopped : ℕ → Verdict

abbrev pub verdict : {A : Type 0} → Answer A → Verdict
verdict (given x) = accepted
verdict none = empty
verdict (refused n) = stopped n

-- the bytes `back` are the mirrored ruler of the bytes `here`: these are records one behind another, and those are the same records turned
abbrev pub MirrorOf : List ℕ → List ℕ → Type 0
MirrorOf back here = (rs : List Record) × (here ≡ joined rs) × (back ≡ joined (turned rs))

-- the bytes `more`, of the ruler of (a, b, limit, m) on the half below zero with z its needle nearest zero, have exactly one record more than
-- the bytes `fewer` of the other half: the last, of the next multiple of the step past z toward zero, at the place that the rule of its own
-- axis gives it; all others match
pub record OneMore (a b : ℤ) (limit : Limit) (m : ℕ) (z : ℤ) (more fewer : List ℕ) : Type 0 where
  pub extra : ℤ
  pub is_next : NextTowardZero (step_of a b m) z extra
  pub place : ℤ
  pub placed : whole_place a b extra limit ≡ given place
  pub others : List Record
  pub fewer_are : fewer ≡ joined others
  pub others_match : more ≡ joined (turned others ++ (mark extra place ∷ []))

-- ---- the statement, for (a, b, p, q, m) and its mirror (−a, −b, −p, −q, m), of every form, whose mirror has the other twist
pub record Mirrored (f : Form) (a b : ℤ) (limit : Limit) (m : ℕ) : Type 0 where
  -- with bytes lent that are long enough on both sides or too short on both, where there is a ruler to write: refused on both with the same
  -- number, or accepted on both
  pub same_verdict : (old old' : List ℕ) → BothLong (no_ruler a b limit m) (length (bytes_by f a b limit m)) old (length (bytes_by (turned_form f) (neg_ℤ a) (neg_ℤ b) (film.mirrored limit) m)) old'
      → verdict (write_by (turned_form f) (neg_ℤ a) (neg_ℤ b) (film.mirrored limit) m old').0 ≡ verdict (write_by f a b limit m old).0
  -- there is a ruler on both sides or on neither
  pub same_ruler : has_ruler (neg_ℤ a) (neg_ℤ b) (film.mirrored limit) m ≡ has_ruler a b limit m
  -- where there is one: the mirrored axis has the mirrored ruler exactly where the marks match
  pub match_exactly : has_ruler a b limit m ≡ true → MirrorOf (bytes_by (turned_form f) (neg_ℤ a) (neg_ℤ b) (film.mirrored limit) m) (bytes_by f a b limit m) ↔ Matches f.choice a b m
  -- otherwise the axis lies below zero or above it,
  pub one_half : (Matches f.choice a b m → ⊥) → (high a b <ℤ pos 0) ⊎ (pos 0 <ℤ low a b)
  -- and the half below zero, which is this axis or its mirror, has exactly one record more
  pub one_more_below : has_ruler a b limit m ≡ true → (Matches f.choice a b m → ⊥) → high a b <ℤ pos 0
      → OneMore a b limit m (high a b) (bytes_by f a b limit m) (bytes_by (turned_form f) (neg_ℤ a) (neg_ℤ b) (film.mirrored limit) m)
  pub one_more_above : has_ruler a b limit m ≡ true → (Matches f.choice a b m → ⊥) → pos 0 <ℤ low a b
      → OneMore (neg_ℤ a) (neg_ℤ b) (film.mirrored limit) m (neg_ℤ (low a b)) (bytes_by (turned_form f) (neg_ℤ a) (neg_ℤ b) (film.mirrored limit) m) (bytes_by f a b limit m)

-- ---- 02 (c): a call that is handed a twist by its number, and its mirror, which is handed the other: 0 for 1 and 1 for 0. Any other number is handed
-- on as it is, and refused on both sides.
abbrev pub other_number : ℕ → ℕ
other_number t = cond (t == 0) 1 (cond (t == 1) 0 t)

pub record TwistMirrored (c : Choice) (t : ℕ) (a b : ℤ) (limit : Limit) (m : ℕ) : Type 0 where
  -- with a twist that is known the call writes the ruler of that form, and its mirror that of the mirrored form, of which `Mirrored` speaks
  pub known : t ≤ 1 → (old : List ℕ) → twisted_write c t a b limit m old ≡ write_by (twisted c t) a b limit m old
  pub other : t ≤ 1 → twisted c (other_number t) ≡ turned_form (twisted c t)
  -- with any, and bytes lent that are enough on both sides or on neither, where there is a ruler: refused on both with the same number, or accepted on both
  pub same_verdict : (old old' : List ℕ)
      → BothLong (no_ruler a b limit m) (length (bytes_by (twisted c t) a b limit m)) old (length (bytes_by (twisted c (other_number t)) (neg_ℤ a) (neg_ℤ b) (film.mirrored limit) m)) old'
      → verdict (twisted_write c (other_number t) (neg_ℤ a) (neg_ℤ b) (film.mirrored limit) m old').0 ≡ verdict (twisted_write c t a b limit m old).0
