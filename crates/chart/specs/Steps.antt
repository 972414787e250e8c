-- What the steps of the calls on charts find, for the promises of private functions: no part of the rules. Assumes nothing.
use Rattle.std.specs.Prelude.{ℕ, true, [], ◌∷◌, ℤ}
use Rattle.ranged1d.specs.Answer.{Answer, given, lowest}
use Rattle.chart.specs.Chart.{Deed, found_at, recounted, count_reason, pin_entry, entry_reasons}

-- the entry where a pin counts, whatever memory is lent
unfoldable pub chart_entry : ℤ → ℤ → ℤ → ℤ → Answer ℕ
chart_entry a b d pin = lowest (entry_reasons a b d pin) (given (found_at (pin_entry a b d pin)))

-- a count of a chart after a deed
abbrev pub recount_of : Deed → ℕ → Answer ℕ
recount_of deed n = lowest (count_reason deed n true ∷ []) (given (recounted deed n))
