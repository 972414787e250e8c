-- How C chooses a search: by a number. Assumes nothing.
use Rattle.std.specs.Prelude.{ℕ, zero, suc, Option, Some, None}
use Rattle.ranged1d.specs.Answer.{Answer, refused}
use Rattle.search.specs.declared.RoundingMethod.{RoundingMethod}
use Rattle.search.specs.declared.RoundingMethod.TheVariants.{Exact, Ceil, Floor, Round}

-- 0 exact, 1 up, 2 down, 3 nearest; no other number is a search
abbrev pub method_of : ℕ → Option RoundingMethod
method_of zero = Some Exact
method_of (suc zero) = Some Ceil
method_of (suc (suc zero)) = Some Floor
method_of (suc (suc (suc zero))) = Some Round
method_of (suc (suc (suc (suc n)))) = None

-- a rule under the search that was chosen: 1 where there is none, also where no search is made
abbrev pub by_method : {A : Type 0} → Option RoundingMethod → (RoundingMethod → Answer A) → Answer A
by_method (Some m) rule = rule m
by_method None rule = refused 1
