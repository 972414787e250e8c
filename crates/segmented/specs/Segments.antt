-- 01 "Whole reading, segments, real labels": the segments over an axis, and what each call on them answers, with the refusals of 01 "Why a call
-- stops". Every rule is written once, over what segments ask of the axis below them. Assumes nothing.
use Rattle.std.specs.Prelude.{ℕ, suc, Bool, false, cond, not, ◌&&◌, ◌||◌, List, [], ◌∷◌, ◌++◌, length, ℤ, pos, ◌+ℤ◌, ◌-ℤ◌, ◌==◌, int_div, nat_lt, Option}
use Rattle.std.specs.Float.Ieee as Ieee
use Rattle.std.specs.Float.{binary32}
use Rattle.ranged1d.specs.Answer.{Answer, given, none, refused, Reason, ◌when◌, lowest, written, and_then}
use Rattle.ranged1d.specs.Admitted.{limit_admitted, reading_admitted}
use Rattle.ranged1d.specs.declared.Limit.{Limit}
use Rattle.rounding.specs.Integral as way
use Rattle.rounding.specs.Within.{whole_of}
use Rattle.discrete.specs.Index.{index_for}
use Rattle.real.specs.Place.{is_beyond, number}
use Rattle.segmented.specs.Values.{Segment, exact, center_of, last, carries}

-- ---- what segments ask of an axis
pub record Axis (A : Type 0) : Type 0 where
  -- 1: its ends, and the step if it has one, are admitted; and a value is
  pub admitted : Bool
  pub fit : A → Bool
  -- its count n, and the value at each index below n
  pub count : ℕ
  pub entry : ℕ → Answer A
  -- 4, a whole axis: too many values
  pub too_many : Bool
  -- 6 and 7, a stepped axis: its list is refused, so that there is no count
  pub against : Bool
  pub too_long : Bool
  -- the place of a value between limits, by the ends
  pub spot : A → Limit → Option ℤ
  -- the marks, and 3
  pub marks : ℕ → List A
  pub no_step : ℕ → Bool

-- how the axis finds a value, a stepped one by the search chosen for it: its index; and 9, where it cannot be searched for
pub record Finder (A : Type 0) : Type 0 where
  pub index : A → Answer ℕ
  pub unsought : A → Bool

-- half of a number, cut toward zero
abbrev pub half : ℤ → ℤ
half z = int_div z (pos 2)

-- The margin: the film's length over the count, as a quotient of f32, rounded to the nearest whole number, a half going away from zero.
unfoldable pub shared : ℕ → ℤ → ℤ
shared n l = whole_of way.halves (Ieee.div binary32 (Ieee.of_int binary32 l) (Ieee.of_int binary32 (pos n)))

unfoldable pub margin : ℕ → Limit → ℤ
margin n limit = shared n (limit.1 -ℤ limit.0)

-- limits whose second is moved in by the margin
abbrev pub narrowed : ℕ → Limit → Limit
narrowed n limit = record { 0 = limit.0; 1 = limit.1 -ℤ margin n limit }

module _ {A : Type 0} (axis : Axis A) where
  -- 4 and 5 are met only where there is a count, which a list that is refused does not have. 4: no values, or too many.
  abbrev pub listed : Bool
  listed = not (axis.against || axis.too_long)

  abbrev pub no_segments : Bool
  no_segments = listed && (axis.count == 0 || axis.too_many)

  -- why there are no segments: 4, 6 and 7; and 1 before them
  abbrev pub unlisted : List Reason
  unlisted = 4 when no_segments ∷ 6 when axis.against ∷ 7 when axis.too_long ∷ []

  abbrev pub count_reasons : List Reason
  count_reasons = 1 when not axis.admitted ∷ unlisted

  abbrev pub counted : {B : Type 0} → Answer B → Answer B
  counted r = lowest count_reasons r

  -- ---- places
  -- an entry's place, between the narrowed limits
  abbrev pub start : A → Limit → Option ℤ
  start v limit = axis.spot v (narrowed axis.count limit)

  -- the entry one after an index, and the successor of a value: the entry one after its index; none where it has no index or
  -- cannot be searched for, or is the last
  abbrev pub entry_after : Answer ℕ → Answer A
  entry_after r = and_then r (λ k. axis.entry (suc k))

  abbrev pub successor : Finder A → A → Answer A
  successor find v = cond (find.unsought v) none (entry_after (find.index v))

  -- the middle of a segment: half the sum of its place and its successor's; without a successor, its place and half the margin
  abbrev pub middle : A → Limit → Answer A → Answer ℤ
  middle v limit (given w) = given (half (number (start v limit) +ℤ number (start w limit)))
  middle v limit none = given (number (start v limit) +ℤ half (margin axis.count limit))
  middle v limit (refused n) = refused n

  abbrev pub placed : Finder A → Segment A → Limit → Answer ℤ
  placed find (exact v) limit = given (number (start v limit))
  placed find (center_of v) limit = middle v limit (successor find v)
  placed find last limit = given limit.1

  -- 5: a place that is asked for is beyond
  abbrev pub after_beyond : Limit → Answer A → Bool
  after_beyond limit (given w) = is_beyond (start w limit)
  after_beyond limit none = false
  after_beyond limit (refused n) = false

  abbrev pub too_far : Finder A → Segment A → Limit → Bool
  too_far find (exact v) limit = is_beyond (start v limit)
  too_far find (center_of v) limit = is_beyond (start v limit) || after_beyond limit (successor find v)
  too_far find last limit = false

  -- 1: the value that a segment's value carries
  abbrev pub fit_in : Segment A → Bool
  fit_in s = carries axis.fit s

  -- 9: a value that cannot be searched for. Placing `Exact` searches nothing.
  abbrev pub unsought_place : Finder A → Segment A → Bool
  unsought_place find (exact v) = false
  unsought_place find (center_of v) = find.unsought v
  unsought_place find last = false

  -- ---- `map`
  abbrev pub segment_place_reasons : Finder A → Segment A → Limit → List Reason
  segment_place_reasons find s limit =
      1 when not (axis.admitted && fit_in s)
      ∷ 2 when not (limit_admitted limit)
      ∷ 4 when no_segments
      ∷ 5 when (listed && too_far find s limit)
      ∷ 6 when axis.against
      ∷ 7 when axis.too_long
      ∷ 9 when unsought_place find s
      ∷ []

  unfoldable pub segment_place : Finder A → Segment A → Limit → Answer ℤ
  segment_place find s limit = lowest (segment_place_reasons find s limit) (placed find s limit)

  -- ---- `size`: a value for each entry, and `Last`
  unfoldable pub segment_size : Answer ℕ
  segment_size = counted (given (suc axis.count))

  -- ---- `index_of`: that of the value on the axis; `Last` stands behind all entries
  abbrev pub index_in : Finder A → Segment A → Answer ℕ
  index_in find (exact v) = find.index v
  index_in find (center_of v) = find.index v
  index_in find last = given axis.count

  abbrev pub unsought_in : Finder A → Segment A → Bool
  unsought_in find (exact v) = find.unsought v
  unsought_in find (center_of v) = find.unsought v
  unsought_in find last = false

  abbrev pub segment_index_reasons : Finder A → Segment A → List Reason
  segment_index_reasons find s = 1 when not (axis.admitted && fit_in s) ∷ unlisted ++ (9 when unsought_in find s ∷ [])

  unfoldable pub segment_index_of : Finder A → Segment A → Answer ℕ
  segment_index_of find s = lowest (segment_index_reasons find s) (index_in find s)

  -- ---- `from_index`: `Exact` of each entry, then `Last`, then none
  abbrev pub exactly : Answer A → Answer (Segment A)
  exactly r = and_then r (λ v. given (exact v))

  unfoldable pub segment_at : ℕ → Answer (Segment A)
  segment_at k = cond (k == axis.count) (given last) (exactly (axis.entry k))

  unfoldable pub segment_from_index : ℕ → Answer (Segment A)
  segment_from_index k = counted (segment_at k)

  -- ---- `unmap`: the value at the index of the pixel on an axis with one value more
  abbrev pub segment_of : Answer ℕ → Answer (Segment A)
  segment_of r = and_then r segment_at

  abbrev pub segment_reading_reasons : ℤ → Limit → List Reason
  segment_reading_reasons x limit = 1 when not axis.admitted ∷ 2 when not (reading_admitted x limit) ∷ unlisted

  unfoldable pub segment_reading : ℤ → Limit → Answer (Segment A)
  segment_reading x limit =
      lowest (segment_reading_reasons x limit) (segment_of (index_for (x -ℤ limit.0) (limit.1 -ℤ limit.0) (suc axis.count)))

  -- ---- `key_points`: the marks of the axis, each standing for `CenterOf` of it, written to the lent list; told is what the call answers then
  abbrev pub unmarked : ℕ → List Reason
  unmarked m = 1 when not axis.admitted ∷ 3 when axis.no_step m ∷ unlisted

  abbrev pub segment_key_points_reasons : ℕ → List A → List Reason
  segment_key_points_reasons m old = unmarked m ++ (13 when nat_lt (length old) (length (axis.marks m)) ∷ [])

  unfoldable pub segment_key_points : {B : Type 0} → B → ℕ → List A → Answer B × List A
  segment_key_points told m old = written (lowest (segment_key_points_reasons m old) (given told)) (axis.marks m) old
