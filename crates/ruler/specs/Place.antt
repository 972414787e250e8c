-- 01 "Places on the film": the place of a mark, as its record has it. Assumes nothing.
use Rattle.std.specs.Prelude.{ℤ, pos}
use Rattle.ranged1d.specs.Answer.{Answer, given, none, refused}
use Rattle.ranged1d.specs.declared.Limit.{Limit}
use Rattle.real.specs.Place.{whole_place}

-- the place in an answer; 0 stands where there is none
abbrev pub place_in : Answer ℤ → ℤ
place_in (given x) = x
place_in none = pos 0
place_in (refused n) = pos 0

-- where the rule for whole axes puts v on the film. A mark is never without a place: `every-placed` of proofs/Places.
unfoldable pub place_of : ℤ → ℤ → Limit → ℤ → ℤ
place_of a b limit v = place_in (whole_place a b v limit)
