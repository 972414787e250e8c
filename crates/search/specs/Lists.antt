-- The searches of a lent list, with the refusals of 01 "Why a call stops". Assumes nothing.
use Rattle.std.specs.Prelude.{ℕ, Bool, true, false, cond, not, ◌&&◌, ◌||◌, List, [], ◌∷◌, ltb, ℤ, length, Float}
use Rattle.ranged1d.specs.Answer.{Answer, ◌when◌, lowest, Reason}
use Rattle.ranged1d.specs.Admitted.{whole_admitted}
use Rattle.ranged1d.specs.Numbers.{every}
use Rattle.search.specs.Search.{Numbers, wholes, reals, search}
use Rattle.search.specs.declared.RoundingMethod.{RoundingMethod}
use Rattle.search.specs.declared.RoundingMethod.TheVariants.{Exact, Ceil, Floor, Round}

-- ---- whether x comes before y in a list that rises, or in one that falls
abbrev pub toward : {A : Type 0} → Bool → (A → A → Bool) → A → A → Bool
toward rises lt x y = cond rises (lt x y) (lt y x)

-- ---- 8: which lists can be searched. No entry is a NaN, which is an entry that does not equal itself, and each is less than the next,
-- or each is greater than the next.
abbrev pub goes_on : {A : Type 0} → (A → A → Bool) → A → List A → Bool
goes_on lt x [] = true
goes_on lt x (y ∷ ys) = lt x y && goes_on lt y ys

abbrev pub ascends : {A : Type 0} → (A → A → Bool) → List A → Bool
ascends lt [] = true
ascends lt (x ∷ xs) = goes_on lt x xs

unfoldable pub searchable : {A : Type 0} → Numbers A → List A → Bool
searchable num l = every (λ x. num.equal x x) l && (ascends num.less l || ascends (λ x y. num.less y x) l)

-- ---- 9: a NaN, which is what does not equal itself, as the target, where the list has an entry and the search is not the exact one
abbrev pub is_exact : RoundingMethod → Bool
is_exact Exact = true
is_exact Ceil = false
is_exact Floor = false
is_exact Round = false

abbrev pub nan_target : {A : Type 0} → Numbers A → A → RoundingMethod → ℕ → Bool
nan_target num t method n = not (num.equal t t) && (ltb 0 n && not (is_exact method))

-- ---- `search_whole`: 1 where an entry or the target is not admitted, 8 where the list cannot be searched
abbrev pub whole_search_reasons : List ℤ → ℤ → List Reason
whole_search_reasons l t = 1 when not (every whole_admitted l && whole_admitted t) ∷ 8 when not (searchable wholes l) ∷ []

unfoldable pub whole_search : List ℤ → ℤ → RoundingMethod → Answer ℕ
whole_search l t method = lowest (whole_search_reasons l t) (search wholes t method l)

-- ---- `search_real`: 8 and 9
abbrev pub real_search_reasons : List Float → Float → RoundingMethod → List Reason
real_search_reasons l t method = 8 when not (searchable reals l) ∷ 9 when nan_target reals t method (length l) ∷ []

unfoldable pub real_search : List Float → Float → RoundingMethod → Answer ℕ
real_search l t method = lowest (real_search_reasons l t method) (search reals t method l)
