-- What the steps of the calls on segments find, for the promises of private functions. Assumes nothing.
use Rattle.std.specs.Prelude.{◌≡◌, ℕ, suc, ◌<◌, ◌≤◌, true, false, not, ◌&&◌, ◌||◌, [], ◌∷◌, ℤ, ◌+ℤ◌, ◌-ℤ◌, ◌==◌, nat_eq, nat_lt, unsigned_abs}
use Rattle.ranged1d.specs.Answer.{Answer, given, none, refused, ◌when◌, lowest, and_then}
use Rattle.ranged1d.specs.Admitted.{limit_admitted}
use Rattle.ranged1d.specs.declared.Limit.{Limit}
use Rattle.segmented.specs.Values.{Segment}
use Rattle.real.specs.Place.{is_beyond, number, spot_answer}
use Rattle.segmented.specs.Axes.{most_values}
use Rattle.segmented.specs.Segments.{Axis, Finder, half, counted, successor, placed, too_far, unsought_place}

-- 4: a number of marks that is given is at least 1
abbrev pub at_least_one : Answer ℕ → Answer ℕ
at_least_one r = and_then r (λ n. lowest (4 when nat_eq n 0 ∷ []) (given n))

-- 4: a number of entries that is given is at least 1, and not too many for a whole axis; a stepped one never has so many
abbrev pub standing : Answer ℕ → Answer ℕ
standing r = and_then r (λ n. lowest (4 when (n == 0 || nat_lt most_values n) ∷ []) (given n))

-- a place, if there is one, is so near to 0 that two of them can be added
abbrev pub Near : Answer ℤ → Type 0
Near r = (z : ℤ) → r ≡ given z → unsigned_abs z ≤ 1_001_000_000

-- the middle of a segment that begins at z, by where the next one begins, and by the margin m if there is none
abbrev pub half_way : ℤ → ℤ → Answer ℤ → Answer ℤ
half_way m z (given y) = given (half (z +ℤ y))
half_way m z none = given (z +ℤ half m)
half_way m z (refused n) = refused n

abbrev pub middle_by : ℤ → Answer ℤ → Answer ℤ → Answer ℤ
middle_by m left right = and_then left (λ z. half_way m z right)

module _ {A : Type 0} (axis : Axis A) where
  -- how many entries the segments stand on, or why there are no segments
  unfoldable pub count_answer : Answer ℕ
  count_answer = counted axis (given axis.count)

  -- what is known of an axis with n segments
  pub record Stands (n : ℕ) : Type 0 where
    pub admitted : axis.admitted ≡ true
    pub onward : axis.against ≡ false
    pub short : axis.too_long ≡ false
    pub few : axis.too_many ≡ false
    pub count : axis.count ≡ n
    pub some : 1 ≤ n
    pub most : n ≤ most_values

  -- what holds of every axis that segments stand on
  pub record Regular : Type 0 where
    -- an axis that is not refused has no more entries than segments may have, and one with too many has more
    pub few : axis.too_many ≡ false → axis.too_long ≡ false → axis.count ≤ most_values
    pub many : axis.too_many ≡ true → most_values < axis.count
    -- behind the last entry there is none, and each is admitted
    pub past : {n : ℕ} → Stands n → (k : ℕ) → n ≤ k → axis.entry (suc k) ≡ none
    pub fit : {n : ℕ} → Stands n → (k : ℕ) {w : A} → axis.entry k ≡ given w → axis.fit w ≡ true
    -- places are near 0
    pub near : (v : A) (l : Limit) → limit_admitted l ≡ true → Near (spot_answer (axis.spot v l))

  -- what the axis itself answers: its count, the entry at an index, the index of a value, and its place between limits
  unfoldable pub size_answer : Answer ℕ
  size_answer = lowest (1 when not axis.admitted ∷ 6 when axis.against ∷ 7 when axis.too_long ∷ []) (given axis.count)

  unfoldable pub entry_answer : ℕ → Answer A
  entry_answer k = lowest (1 when not axis.admitted ∷ 6 when axis.against ∷ 7 when axis.too_long ∷ []) (axis.entry k)

  unfoldable pub index_answer : Finder A → A → Answer ℕ
  index_answer find v =
      lowest (1 when not (axis.admitted && axis.fit v) ∷ 6 when axis.against ∷ 7 when axis.too_long ∷ 9 when find.unsought v ∷ []) (find.index v)

  unfoldable pub place_answer : A → Limit → Answer ℤ
  place_answer v limit =
      lowest (1 when not (axis.admitted && axis.fit v) ∷ 2 when not (limit_admitted limit) ∷ 5 when is_beyond (axis.spot v limit) ∷ [])
      (given (number (axis.spot v limit)))

  -- the successor of v, or 9
  unfoldable pub next_answer : Finder A → A → Answer A
  next_answer find v = lowest (9 when find.unsought v ∷ []) (successor axis find v)

  -- the place of the successor of v between limits
  unfoldable pub after_answer : Finder A → A → Limit → Answer ℤ
  after_answer find v limit = and_then (next_answer find v) (λ w. spot_answer (axis.spot w limit))

  -- the middle of the segment of v, whose margin is what the second limit was moved in by
  unfoldable pub middle_answer : Finder A → A → Limit → Limit → Answer ℤ
  middle_answer find v limit within = middle_by (limit.1 -ℤ within.1) (spot_answer (axis.spot v within)) (after_answer find v within)

  -- a place once the segments are counted
  unfoldable pub placed_answer : Finder A → Segment A → Limit → Answer ℤ
  placed_answer find s limit = lowest (5 when too_far axis find s limit ∷ 9 when unsought_place axis find s ∷ []) (placed axis find s limit)
