-- 01 "Mirroring, real reading, stepped axes": what the mirror theorem says of the searches of lent lists. It is stated over the rules
-- that the calls promise. `mirror` of proofs/Mirror proves `Mirrored`. Assumes nothing.
use Rattle.std.specs.Prelude.{◌≡◌, List, [], ◌∷◌, map, ℤ, neg_ℤ, Float}
use Rattle.std.specs.Float.Ieee.{neg}
use Rattle.search.specs.Lists.{whole_search, real_search}
use Rattle.search.specs.declared.RoundingMethod.{RoundingMethod}
use Rattle.search.specs.declared.RoundingMethod.TheVariants.{Exact, Ceil, Floor, Round}

-- up and down exchanged
abbrev pub turned : RoundingMethod → RoundingMethod
turned Exact = Exact
turned Ceil = Floor
turned Floor = Ceil
turned Round = Round

-- two lists that correspond entry for entry, in the same order
pub data Each {A : Type 0} (R : A → A → Type 0) : List A → List A → Type 0 where
  end : Each R [] []
  more : {x y : A} {xs ys : List A} → R x y → Each R xs ys → Each R (x ∷ xs) (y ∷ ys)

-- ---- the statement: with every entry and the target negated, the entries in the same order, and up and down exchanged, the index is the
-- same, or both are none, or both are refused with one number; for every list and target
pub record Mirrored : Type 0 where
  pub whole_searches : (l : List ℤ) (t : ℤ) (method : RoundingMethod) → whole_search (map neg_ℤ l) (neg_ℤ t) (turned method) ≡ whole_search l t method
  pub real_searches : (l : List Float) (t : Float) (method : RoundingMethod) → real_search (map neg l) (neg t) (turned method) ≡ real_search l t method
