-- Demand 3, whole: what a draft and its mirror have in common, clause by clause, with 01 "Mirroring, real reading, stepped axes". Each clause is a
-- statement over the rules that the calls promise, so over what the calls do. All of them hold of every number, so of the admitted ones, and of
-- every mark limit. `demand_three` of proofs/Mirror proves `DemandThree`. Assumes nothing.
use Rattle.std.specs.Prelude.{ℕ, ◌≤◌, List, [], map, ◌⊎◌, ◌↔◌, ◌≡◌, ℤ, pos, neg_ℤ, length, take, ◌<ℤ◌, Float}
use Rattle.std.specs.Float.Ieee.{neg}
use Rattle.ranged1d.specs.Answer.{Answer, given, none, refused, BothLong}
use Rattle.ranged1d.specs.Admitted.{ends_admitted}
use Rattle.ranged1d.specs.declared.Limit.{Limit}
use Rattle.real.specs.Place.{whole_place, real_place}
use Rattle.real.specs.Reading.{real_reading}
use Rattle.real.specs.Exact.{whole_exact}
use Rattle.real.specs.Mirror as film
use Rattle.real.specs.Mirror.{negated, Opposite}
use Rattle.numeric.specs.declared.Choice.{Choice}
use Rattle.numeric.specs.Marks.{low, high, step_of, marks}
use Rattle.numeric.specs.Calls.{plan_reasons, whole_key_points}
use Rattle.numeric.specs.Directed.{whole_directed, negated_reading}
use Rattle.numeric.specs.Mirror.{mirrored, nearest_zero, Divides, OneMore, step_only}
use Rattle.search.specs.Lists.{whole_search, real_search}
use Rattle.search.specs.Mirror.{turned}
use Rattle.search.specs.declared.RoundingMethod.{RoundingMethod}
use Rattle.linspace.specs.List.{Kind, whole, real, stepped}
use Rattle.linspace.specs.Calls.{count_reasons, unmarked, step_values, step_index_of, step_place, step_marks, step_key_points}
use Rattle.linspace.specs.Mirror.{Negated}
use Rattle.segmented.specs.Values.{Segment}
use Rattle.segmented.specs.Segments as segments
use Rattle.segmented.specs.Segments.{segment_index_of, segment_place, segment_key_points}
use Rattle.segmented.specs.Axes.{stepped_axis, stepped_finder}
use Rattle.segmented.specs.Mirror.{across}
use Rattle.ruler.specs.declared.Form.{Form}
use Rattle.ruler.specs.Rule.{no_ruler, bytes_by, write_by, twisted, twisted_write}
use Rattle.ruler.specs.Mirror as ruler
use Rattle.ruler.specs.Mirror.{accepted, verdict}

-- ---- the words that every clause uses; the mirror of film limits is `film.mirrored`, of real/specs/Mirror
-- what a call has written to the memory lent to it, from the number that its answer gives: nothing without an answer
abbrev pub first_of : {A B : Type 0} → (A → ℕ) → Answer A → List B → List B
first_of many (given x) held = take (many x) held
first_of many none held = []
first_of many (refused n) held = []

abbrev pub wrote : {A B : Type 0} → (A → ℕ) → Answer A × List B → List B
wrote many done = first_of many done.0 done.1

-- ---- demand 3, the first half: rulers. 01: rulers match when the axis's record has ends and limits negated and the same mark limit and step, and
-- the marks' records stand in reverse order, each with needle and place negated and the label of the negated needle (`turned` of ruler/specs/Mirror).
-- The needle nearest zero is zero if the axis holds it, otherwise the end nearer to zero.

-- What two calls wrote is a ruler and its mirror: `ruler.MirrorOf`. The half below zero is the axis (a, b), and z its needle nearest zero: what was
-- written for it has exactly one mark more than what was written for the other half. It is the last, the next multiple of the step past z, toward zero,
-- and stands where this axis's own rule places it; all others match: `ruler.OneMore`. Both are of ruler/specs/Mirror. 02 (a), (c): the statement is one over
-- the kinds, 1 and 5 with their marks cut at the larger end, 3 and 6 with those on the axis; a mirrored ruler with a twist has the other one.
module _ (f : Form) (a b : ℤ) (limit : Limit) (m : ℕ) (old old' : List ℕ) where
  -- what writing the ruler of the draft does, and that of its mirror, which has the other twist
  abbrev pub ruling : Answer (ℕ × ℕ) × List ℕ
  ruling = write_by f a b limit m old

  abbrev pub ruling_back : Answer (ℕ × ℕ) × List ℕ
  ruling_back = write_by (ruler.turned_form f) (neg_ℤ a) (neg_ℤ b) (film.mirrored limit) m old'

  pub record Rulers : Type 0 where
    -- Both are refused with the same number, or both are accepted.
    pub verdicts : verdict ruling_back.0 ≡ verdict ruling.0
    -- Accepted, the mirrored axis has the mirrored ruler exactly where the marks match: of kinds 1 and 5 when the step divides the needle nearest zero,
    -- of kinds 3 and 6 on every axis (`Matches` of ruler/specs/Mirror).
    pub match_exactly : verdict ruling.0 ≡ accepted
        → ruler.MirrorOf (wrote (λ x. x.0) ruling_back) (wrote (λ x. x.0) ruling) ↔ ruler.Matches f.choice a b m
    -- Otherwise the axis lies below zero or above it, and the half below zero, which is this axis or its mirror, has exactly one mark more.
    pub one_half : (ruler.Matches f.choice a b m → ⊥) → (high a b <ℤ pos 0) ⊎ (pos 0 <ℤ low a b)
    pub one_more_below : verdict ruling.0 ≡ accepted → (ruler.Matches f.choice a b m → ⊥) → high a b <ℤ pos 0
        → ruler.OneMore a b limit m (high a b) (wrote (λ x. x.0) ruling) (wrote (λ x. x.0) ruling_back)
    pub one_more_above : verdict ruling.0 ≡ accepted → (ruler.Matches f.choice a b m → ⊥) → pos 0 <ℤ low a b
        → ruler.OneMore (neg_ℤ a) (neg_ℤ b) (film.mirrored limit) m (neg_ℤ (low a b)) (wrote (λ x. x.0) ruling_back) (wrote (λ x. x.0) ruling)

-- ---- 02 (c): the calls that are handed a twist as a number, t on this side and the other on that of the mirror (`ruler.other_number`)
module _ (c : Choice) (t : ℕ) (a b : ℤ) (limit : Limit) (m : ℕ) (old old' : List ℕ) where
  abbrev pub twisting : Answer (ℕ × ℕ) × List ℕ
  twisting = twisted_write c t a b limit m old

  abbrev pub twisting_back : Answer (ℕ × ℕ) × List ℕ
  twisting_back = twisted_write c (ruler.other_number t) (neg_ℤ a) (neg_ℤ b) (film.mirrored limit) m old'

  pub record TwistedRulers : Type 0 where
    -- Both are refused with the same number, 15 among them, or both are accepted.
    pub verdicts : verdict twisting_back.0 ≡ verdict twisting.0
    -- Handed a twist, the two calls do just what `Rulers` speaks of: they write the ruler of that twist, and its mirror's with the other.
    pub here : t ≤ 1 → twisting ≡ ruling (twisted c t) a b limit m old old'
    pub back : t ≤ 1 → twisting_back ≡ ruling_back (twisted c t) a b limit m old old'
    pub rulers : t ≤ 1 → Rulers (twisted c t) a b limit m old old'

-- ---- 01: marks of whole axes match when negated and in reverse order (`mirrored` of numeric/specs/Mirror); the same theorem for the call that writes
-- the marks alone, which also tells the step. `OneMore` is that of numeric/specs/Mirror.
module _ (a b : ℤ) (m : ℕ) (old old' : List ℤ) where
  abbrev pub marking : Answer (ℤ × ℕ) × List ℤ
  marking = whole_key_points a b m old

  abbrev pub marking_back : Answer (ℤ × ℕ) × List ℤ
  marking_back = whole_key_points (neg_ℤ a) (neg_ℤ b) m old'

  pub record Marks : Type 0 where
    -- Both are refused with the same number, or both are accepted, with the same step.
    pub verdicts : step_only marking_back.0 ≡ step_only marking.0
    -- Accepted, the mirrored axis has the mirrored marks exactly when the step divides the needle nearest zero.
    pub match_exactly : verdict marking.0 ≡ accepted
        → (wrote (λ x. x.1) marking_back ≡ mirrored (wrote (λ x. x.1) marking)) ↔ Divides (step_of a b m) (nearest_zero a b)
    -- Otherwise the axis lies below zero or above it, and the half below zero, which is this axis or its mirror, has exactly one mark more.
    pub one_half : (Divides (step_of a b m) (nearest_zero a b) → ⊥) → (high a b <ℤ pos 0) ⊎ (pos 0 <ℤ low a b)
    pub one_more_below : verdict marking.0 ≡ accepted → (Divides (step_of a b m) (nearest_zero a b) → ⊥) → high a b <ℤ pos 0
        → OneMore (step_of a b m) (high a b) (wrote (λ x. x.1) marking) (wrote (λ x. x.1) marking_back)
    pub one_more_above : verdict marking.0 ≡ accepted → (Divides (step_of a b m) (nearest_zero a b) → ⊥) → pos 0 <ℤ low a b
        → OneMore (step_of (neg_ℤ a) (neg_ℤ b) m) (neg_ℤ (low a b)) (wrote (λ x. x.1) marking_back) (wrote (λ x. x.1) marking)

-- ---- demand 3, the second half, and the rest of 01's section: what is said of stepped axes, over either kind of numbers, `opposite` negating one. A list
-- and its mirror are negated entry for entry in the same order: `Turned old new` says so.

-- What a call and its mirror have done: both are refused with the same number or neither is, and what they wrote is negated entry for entry.
pub record Alike {A : Type 0} (Turned : List A → List A → Type 0) (back here : Answer ℕ × List A) : Type 0 where
  pub verdicts : back.0 ≡ here.0
  pub entries : Turned (wrote (λ n. n) back) (wrote (λ n. n) here)

module _ {A : Type 0} (kind : Kind A) (opposite : A → A) (Turned : List A → List A → Type 0) (a b d : A) where
  -- the list, and its marks, as the calls write them
  abbrev pub Lists : List A → List A → Type 0
  Lists old old' = Alike Turned (step_values kind (opposite a) (opposite b) (opposite d) old') (step_values kind a b d old)

  abbrev pub StepMarks : ℕ → List A → List A → Type 0
  StepMarks m old old' = Alike Turned (step_key_points kind (opposite a) (opposite b) (opposite d) m old') (step_key_points kind a b d m old)

  -- the marks of segments over it
  abbrev pub SegmentMarks : ℕ → List A → List A → Type 0
  SegmentMarks m old old' =
      Alike Turned
      (segment_key_points (stepped_axis kind (opposite a) (opposite b) (opposite d)) (length (step_marks kind (opposite a) (opposite b) (opposite d) m)) m old')
      (segment_key_points (stepped_axis kind a b d) (length (step_marks kind a b d m)) m old)

  pub record Stepped : Type 0 where
    -- Lists and marks, with memory lent that is long enough on both sides or on neither, where there is something to write.
    pub lists : (old old' : List A) → BothLong (count_reasons kind a b d) (length (stepped kind a b d)) old (length (stepped kind (opposite a) (opposite b) (opposite d))) old' → Lists old old'
    pub step_marks_lem : (m : ℕ) (old old' : List A) → BothLong (unmarked kind a b d m) (length (step_marks kind a b d m)) old (length (step_marks kind (opposite a) (opposite b) (opposite d) m)) old' → StepMarks m old old'
    -- Places are negated, or both are refused with the same number.
    pub places : (v : A) (limit : Limit) → step_place kind (opposite a) (opposite b) (opposite d) (opposite v) (film.mirrored limit) ≡ negated (step_place kind a b d v limit)
    -- A search and its mirror, up and down exchanged, give the same index, or both none, or the same refusal.
    pub searches : (v : A) (method : RoundingMethod) → step_index_of kind (opposite a) (opposite b) (opposite d) (opposite v) (turned method) ≡ step_index_of kind a b d v method
    -- Segments over the axis, a value's mirror being that of the number it carries: index, places and marks.
    pub segment_indices : (method : RoundingMethod) (s : Segment A)
        → segment_index_of (stepped_axis kind (opposite a) (opposite b) (opposite d)) (stepped_finder kind (opposite a) (opposite b) (opposite d) (turned method)) (across opposite s)
        ≡ segment_index_of (stepped_axis kind a b d) (stepped_finder kind a b d method) s
    pub segment_places : (method : RoundingMethod) (s : Segment A) (limit : Limit)
        → segment_place (stepped_axis kind (opposite a) (opposite b) (opposite d)) (stepped_finder kind (opposite a) (opposite b) (opposite d) (turned method)) (across opposite s) (film.mirrored limit)
        ≡ negated (segment_place (stepped_axis kind a b d) (stepped_finder kind a b d method) s limit)
    pub segment_marks_lem : (m : ℕ) (old old' : List A) → BothLong (segments.unmarked (stepped_axis kind a b d) m) (length (step_marks kind a b d m)) old (length (step_marks kind (opposite a) (opposite b) (opposite d) m)) old' → SegmentMarks m old old'

-- ---- the theorem
pub record DemandThree : Type 0 where
  -- Rulers of every kind, of any whole axis, limits and mark limit, with bytes lent that are enough on both sides or on neither, where there is a ruler
  -- to write.
  pub rulers : (f : Form) (a b : ℤ) (limit : Limit) (m : ℕ) (old old' : List ℕ)
      → BothLong (no_ruler a b limit m) (length (bytes_by f a b limit m)) old (length (bytes_by (ruler.turned_form f) (neg_ℤ a) (neg_ℤ b) (film.mirrored limit) m)) old' → Rulers f a b limit m old old'
  -- Those with a twist, as the calls that are handed one write them, likewise.
  pub twisted_rulers : (c : Choice) (t : ℕ) (a b : ℤ) (limit : Limit) (m : ℕ) (old old' : List ℕ)
      → BothLong (no_ruler a b limit m) (length (bytes_by (twisted c t) a b limit m)) old (length (bytes_by (twisted c (ruler.other_number t)) (neg_ℤ a) (neg_ℤ b) (film.mirrored limit) m)) old'
      → TwistedRulers c t a b limit m old old'
  -- Marks of any whole axis, likewise.
  pub whole_marks : (a b : ℤ) (m : ℕ) (old old' : List ℤ)
      → BothLong (plan_reasons (ends_admitted a b) a b m) (length (marks a b m)) old (length (marks (neg_ℤ a) (neg_ℤ b) m)) old' → Marks a b m old old'
  -- Mirroring negates places on whole and real axes, or both sides give the same refusal.
  pub whole_places : (a b v : ℤ) (limit : Limit) → whole_place (neg_ℤ a) (neg_ℤ b) (neg_ℤ v) (film.mirrored limit) ≡ negated (whole_place a b v limit)
  -- 02 (e): the exact place of a needle is that of the mirrored one.
  pub exact_places : (a b v : ℤ) (limit : Limit) → whole_exact (neg_ℤ a) (neg_ℤ b) (neg_ℤ v) (film.mirrored limit) ≡ whole_exact a b v limit
  pub real_places : (a b v : Float) (limit : Limit) → real_place (neg a) (neg b) (neg v) (film.mirrored limit) ≡ negated (real_place a b v limit)
  -- It negates real readings, or both sides give none or the same refusal. Zeros of either sign are equal, and a NaN equals a NaN.
  pub real_readings : (a b : Float) (x : ℤ) (limit : Limit) → Opposite (real_reading (neg a) (neg b) (neg_ℤ x) (film.mirrored limit)) (real_reading a b x limit)
  -- 02 (g): with ends that differ and limits that differ, the reading of a whole axis by the way it runs is the opposite one at the negated pixel.
  pub directed_readings_lem : (a b x : ℤ) (limit : Limit) → (a ≡ b → ⊥) → (limit.0 ≡ limit.1 → ⊥)
      → whole_directed (neg_ℤ a) (neg_ℤ b) (neg_ℤ x) (film.mirrored limit) ≡ negated_reading (whole_directed a b x limit)
  -- A search of a lent list and its mirror, every entry and the target negated, the entries in the same order, up and down exchanged, give the same
  -- index, or both none, or the same refusal.
  pub whole_searches : (l : List ℤ) (t : ℤ) (method : RoundingMethod) → whole_search (map neg_ℤ l) (neg_ℤ t) (turned method) ≡ whole_search l t method
  pub real_searches : (l : List Float) (t : Float) (method : RoundingMethod) → real_search (map neg l) (neg t) (turned method) ≡ real_search l t method
  -- Stepped axes of whole numbers, whose entries are negated, and of real ones, whose entries are negated up to the sign of a zero.
  pub whole_steps : (a b d : ℤ) → Stepped whole neg_ℤ (λ new old. new ≡ map neg_ℤ old) a b d
  pub real_steps : (a b d : Float) → Stepped real neg Negated a b d
