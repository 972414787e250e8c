-- 01 "Mirroring, real reading, stepped axes": the four searches of a list for a target. They are the same for whole and for real
-- entries, given how two entries compare and what lies between them. Assumes nothing.
use Rattle.std.specs.Prelude.{ℕ, suc, Bool, false, cond, ◌||◌, List, [], ◌∷◌, ltb, ℤ, ◌-ℤ◌, Float}
use Rattle.std.specs.Int.Signed.{lt_z}
use Rattle.std.specs.Float.Ieee as Ieee
use Rattle.std.specs.Float.{binary64}
use Rattle.ranged1d.specs.Answer.{Answer, given, none, refused, and_then}
use Rattle.ranged1d.specs.Numbers.{same}
use Rattle.search.specs.declared.RoundingMethod.{RoundingMethod}
use Rattle.search.specs.declared.RoundingMethod.TheVariants.{Exact, Ceil, Floor, Round}

-- ---- what a search asks of entries: which of two is less, whether they are equal, and their difference
pub record Numbers (A : Type 0) : Type 0 where
  pub less : A → A → Bool
  pub equal : A → A → Bool
  pub minus : A → A → A

abbrev pub wholes : Numbers ℤ
wholes = record { less = lt_z; equal = same; minus = ◌-ℤ◌ }

-- Comparisons are IEEE 754's: a NaN is neither less than nor equal to anything, and −0.0 equals 0.0. A difference is rounded.
abbrev pub reals : Numbers Float
reals = record { less = Ieee.lt; equal = Ieee.eq; minus = Ieee.sub binary64 }

-- ---- the best of the entries that pass, and its index: none where none passes. An entry stays the best unless one behind it is
-- better. `best_is` of proofs/Best says what this is: the one that passes and is better than every other that does.
abbrev pub further : {A : Type 0} → Answer (ℕ × A) → Answer (ℕ × A)
further r = and_then r (λ f. given (suc f.0, f.1))

abbrev pub unless_better : {A : Type 0} → (A → A → Bool) → A → Answer (ℕ × A) → Answer (ℕ × A)
unless_better better x (given f) = cond (better f.1 x) (given (suc f.0, f.1)) (given (0, x))
unless_better better x none = given (0, x)
unless_better better x (refused n) = refused n

abbrev pub best : {A : Type 0} → (A → Bool) → (A → A → Bool) → List A → Answer (ℕ × A)
best passes better [] = none
best passes better (x ∷ xs) = cond (passes x) (unless_better better x (best passes better xs)) (further (best passes better xs))

-- ---- exact: an entry equal to the target, the first if there were two. Up: the least of those that are not below it. Down: the
-- greatest of those that are not above it.
module _ {A : Type 0} (num : Numbers A) (t : A) where
  abbrev pub exact : List A → Answer (ℕ × A)
  exact l = best (λ x. num.equal x t) (λ x y. false) l

  abbrev pub up : List A → Answer (ℕ × A)
  up l = best (λ x. num.less t x || num.equal x t) num.less l

  abbrev pub down : List A → Answer (ℕ × A)
  down l = best (λ x. num.less x t || num.equal x t) (λ x y. num.less y x) l

  -- Nearest: of the neighbours below and above, the one whose difference from the target is less; the later of the two where neither
  -- difference is less than the other. Where there is one neighbour it is that; an empty list has none, and the answer is 0.
  abbrev pub nearer : ℕ × A → ℕ × A → ℕ
  nearer f g =
      cond (ltb f.0 g.0)
      (cond (num.less (num.minus t f.1) (num.minus g.1 t)) f.0 g.0)
      (cond (num.less (num.minus g.1 t) (num.minus t f.1)) g.0 f.0)

  abbrev pub between : Answer (ℕ × A) → Answer (ℕ × A) → Answer ℕ
  between (given f) (given g) = given (nearer f g)
  between (given f) none = given f.0
  between (given f) (refused n) = refused n
  between none (given g) = given g.0
  between none none = given 0
  between none (refused n) = refused n
  between (refused n) g = refused n

  -- ---- the search that was chosen
  abbrev pub index_of : Answer (ℕ × A) → Answer ℕ
  index_of r = and_then r (λ f. given f.0)

  abbrev pub search : RoundingMethod → List A → Answer ℕ
  search Exact l = index_of (exact l)
  search Ceil l = index_of (up l)
  search Floor l = index_of (down l)
  search Round l = between (down l) (up l)
