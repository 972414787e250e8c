-- 01 "Mirroring, real reading, stepped axes": what the mirror theorem says of segments over a stepped axis: the mirror of (a, b, d) is
-- (−a, −b, −d), of a segment's value that of the number it carries, and up and down are exchanged where a search is chosen. It is stated over the
-- rules that the calls promise. `whole-mirror` and `real-mirror` of proofs/Mirror prove it of all numbers. Assumes nothing.
use Rattle.std.specs.Prelude.{◌≡◌, ℕ, List, map, length, ℤ, neg_ℤ, Float}
use Rattle.std.specs.Float.Ieee.{neg}
use Rattle.ranged1d.specs.Answer.{BothLong}
use Rattle.ranged1d.specs.declared.Limit.{Limit}
use Rattle.real.specs.Mirror.{mirrored, negated}
use Rattle.search.specs.Mirror.{turned}
use Rattle.search.specs.declared.RoundingMethod.{RoundingMethod}
use Rattle.linspace.specs.List.{Kind, whole, real}
use Rattle.linspace.specs.Mirror.{Negated}
use Rattle.segmented.specs.Values.{Segment, exact, center_of, last}
use Rattle.segmented.specs.Segments.{Axis, Finder, unmarked, segment_place, segment_size, segment_index_of, segment_key_points}
use Rattle.segmented.specs.Axes.{stepped_axis, stepped_finder}

-- the mirror of a segment's value
abbrev pub across : {A : Type 0} → (A → A) → Segment A → Segment A
across opposite (exact v) = exact (opposite v)
across opposite (center_of v) = center_of (opposite v)
across opposite last = last

-- ---- what holds of segments over either kind of stepped axis
module _ {A : Type 0} (kind : Kind A) (opposite : A → A) (a b d : A) where
  abbrev pub here : Axis A
  here = stepped_axis kind a b d

  abbrev pub there : Axis A
  there = stepped_axis kind (opposite a) (opposite b) (opposite d)

  -- the search on either side, up and down exchanged
  abbrev pub find_here : RoundingMethod → Finder A
  find_here method = stepped_finder kind a b d method

  abbrev pub find_there : RoundingMethod → Finder A
  find_there method = stepped_finder kind (opposite a) (opposite b) (opposite d) (turned method)

  -- `Turned` says that a list is the mirror of another
  pub record Mirrored (Turned : List A → List A → Type 0) : Type 0 where
    pub sizes : segment_size there ≡ segment_size here
    -- The index is the same, or both are none, or both are refused alike.
    pub indices : (method : RoundingMethod) (s : Segment A) → segment_index_of there (find_there method) (across opposite s) ≡ segment_index_of here (find_here method) s
    -- A place is negated, or refused alike.
    pub places : (method : RoundingMethod) (s : Segment A) (limit : Limit)
        → segment_place there (find_there method) (across opposite s) (mirrored limit) ≡ negated (segment_place here (find_here method) s limit)
    -- The call that writes the marks answers alike or is refused alike, if the memory is long enough on both sides or on neither, where there are
    -- marks to write.
    pub key_points : (m : ℕ) (old old' : List A) → BothLong (unmarked here m) (length (here.marks m)) old (length (there.marks m)) old'
        → (segment_key_points there (length (there.marks m)) m old').0 ≡ (segment_key_points here (length (here.marks m)) m old).0
    -- The marks are negated entry for entry in the same order.
    pub marks : (m : ℕ) → Turned (there.marks m) (here.marks m)

-- ---- the statements
abbrev pub WholeMirrored : ℤ → ℤ → ℤ → Type 0
WholeMirrored a b d = Mirrored whole neg_ℤ a b d (λ new old. new ≡ map neg_ℤ old)

abbrev pub RealMirrored : Float → Float → Float → Type 0
RealMirrored a b d = Mirrored real neg a b d Negated
