-- Every row of 01's drafting table on stepped lists holds. Assumes nothing.
use mathlib.Core.Path.{◌≡◌, refl}
use mathlib.Core.Bool.{true}
use Rattle.ranged1d.specs.Numbers.{every}
use Rattle.linspace.specs.List.{entries, stepped}
use Rattle.linspace.specs.Worked.{holds, rows}

pub worked : every holds rows ≡ true
unfolding stepped entries
worked = refl
