-- What a search answers once the target's place in a list is known, for callers that know their list without having it, as a stepped
-- axis does. Of n entries the first i come before the target t in the list's own direction, and the others do not; x is the last of
-- those i, y the entry behind it. `settles` of proofs/Settles says that this is 01's search. Assumes nothing.
use Rattle.std.specs.Prelude.{ℕ, zero, suc, Bool, true, false, cond, not, ◌&&◌, [], ◌∷◌, ltb}
use Rattle.ranged1d.specs.Answer.{Answer, given, none, ◌when◌, lowest}
use Rattle.search.specs.Search.{Numbers}
use Rattle.search.specs.Lists.{is_exact}
use Rattle.search.specs.declared.RoundingMethod.{RoundingMethod}
use Rattle.search.specs.declared.RoundingMethod.TheVariants.{Exact, Ceil, Floor, Round}

-- the entry behind those i, and the last of them
abbrev pub ahead : ℕ → ℕ → Answer ℕ
ahead n i = cond (ltb i n) (given i) none

abbrev pub behind : ℕ → Answer ℕ
behind zero = none
behind (suc i) = given i

-- the nearest, where the target has an entry on either side, or on one, or where there is no entry
abbrev pub nearest : ℕ → ℕ → Bool → Answer ℕ
nearest n zero closer = given 0
nearest n (suc i) closer = cond (ltb (suc i) n) (cond closer (given i) (given (suc i))) (given i)

-- the answer for a target that is no entry
abbrev pub unequal : RoundingMethod → Bool → ℕ → ℕ → Bool → Answer ℕ
unequal Exact rises n i c = none
unequal Ceil rises n i c = cond rises (ahead n i) (behind i)
unequal Floor rises n i c = cond rises (behind i) (ahead n i)
unequal Round rises n i c = nearest n i c

module _ {A : Type 0} (num : Numbers A) where
  -- whether the target is nearer to x than to y, on a list that rises or falls
  abbrev pub closer : Bool → A → A → A → Bool
  closer true x t y = num.less (num.minus t x) (num.minus y t)
  closer false x t y = num.less (num.minus x t) (num.minus t y)

  unfoldable pub settled : RoundingMethod → Bool → ℕ → ℕ → A → A → A → Answer ℕ
  settled method rises n i x t y = cond (ltb i n && num.equal y t) (given i) (unequal method rises n i (closer rises x t y))

-- the same for a NaN, which no entry comes before or equals: 9, unless the list is empty or the search exact
abbrev pub for_nan : RoundingMethod → Answer ℕ
for_nan Exact = none
for_nan Ceil = none
for_nan Floor = none
for_nan Round = given 0

unfoldable pub settled_nan : RoundingMethod → ℕ → Answer ℕ
settled_nan method n = lowest (9 when (ltb 0 n && not (is_exact method)) ∷ []) (for_nan method)
