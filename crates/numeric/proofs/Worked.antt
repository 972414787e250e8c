-- Every row of the table of worked marks holds. Assumes nothing.
use mathlib.Core.Path.{◌≡◌, refl}
use mathlib.Core.Bool.{true}
use Rattle.ranged1d.specs.Numbers.{every}
use Rattle.numeric.specs.Marks.{step_at, first_of, chosen, no_step_for, step_for, marks_for}
use Rattle.numeric.specs.Calls.{whole_plan}
use Rattle.numeric.specs.Worked.{holds, rows}

pub worked : every holds rows ≡ true
unfolding step_at first_of chosen no_step_for step_for marks_for whole_plan
worked = refl
