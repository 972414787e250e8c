-- 01 "Mirroring, real reading, stepped axes": what the mirror theorem says of stepped axes: the mirror of (a, b, d) is (−a, −b, −d), and up
-- and down are exchanged where a search is chosen. It is stated over the rules that the calls promise. `whole-mirror` and `real-mirror` of
-- proofs/Mirror prove it of all numbers. Assumes nothing.
use Rattle.std.specs.Prelude.{ℕ, ◌≡◌, List, map, ℤ, neg_ℤ, length, Float}
use Rattle.std.specs.Float.Ieee.{neg}
use Rattle.ranged1d.specs.Answer.{BothLong}
use Rattle.ranged1d.specs.declared.Limit.{Limit}
use Rattle.real.specs.Mirror.{mirrored, negated, Same}
use Rattle.search.specs.Mirror.{turned, Each}
use Rattle.search.specs.declared.RoundingMethod.{RoundingMethod}
use Rattle.linspace.specs.List.{Kind, whole, real, stepped}
use Rattle.linspace.specs.Calls.{count_reasons, unmarked, step_marks, step_values, step_size, step_index_of, step_place, step_key_points}

-- a list of reals and its mirror: negated entry for entry in the same order, a zero of either sign and a NaN each counting as equal
abbrev pub Negated : List Float → List Float → Type 0
Negated l l' = Each (λ x y. Same x (neg y)) l l'

-- ---- what holds of stepped axes of either kind of numbers, `opposite` negating one, and `Turned` saying that a list is the mirror of another
module _ {A : Type 0} (kind : Kind A) (opposite : A → A) (Turned : List A → List A → Type 0) (a b d : A) where
  pub record Mirrored : Type 0 where
    -- The list is negated entry for entry in the same order, and so are its marks.
    pub lists : Turned (stepped kind (opposite a) (opposite b) (opposite d)) (stepped kind a b d)
    pub marks : (m : ℕ) → Turned (step_marks kind (opposite a) (opposite b) (opposite d) m) (step_marks kind a b d m)
    -- The calls that write them answer alike or are refused alike, if the memory is long enough on both sides or on neither, where there is something to
    -- write.
    pub values : (old old' : List A) → BothLong (count_reasons kind a b d) (length (stepped kind a b d)) old (length (stepped kind (opposite a) (opposite b) (opposite d))) old'
        → (step_values kind (opposite a) (opposite b) (opposite d) old').0 ≡ (step_values kind a b d old).0
    pub key_points : (m : ℕ) (old old' : List A) → BothLong (unmarked kind a b d m) (length (step_marks kind a b d m)) old (length (step_marks kind (opposite a) (opposite b) (opposite d) m)) old'
        → (step_key_points kind (opposite a) (opposite b) (opposite d) m old').0 ≡ (step_key_points kind a b d m old).0
    pub sizes : step_size kind (opposite a) (opposite b) (opposite d) ≡ step_size kind a b d
    -- A search finds the same index, or none on both sides, or is refused alike.
    pub searches : (v : A) (method : RoundingMethod) → step_index_of kind (opposite a) (opposite b) (opposite d) (opposite v) (turned method) ≡ step_index_of kind a b d v method
    -- A place is negated, or refused alike.
    pub places : (v : A) (limit : Limit) → step_place kind (opposite a) (opposite b) (opposite d) (opposite v) (mirrored limit) ≡ negated (step_place kind a b d v limit)

-- ---- the statements
abbrev pub WholeMirrored : ℤ → ℤ → ℤ → Type 0
WholeMirrored = Mirrored whole neg_ℤ (λ new old. new ≡ map neg_ℤ old)

abbrev pub RealMirrored : Float → Float → Float → Type 0
RealMirrored = Mirrored real neg Negated
