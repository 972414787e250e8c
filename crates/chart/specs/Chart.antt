-- Pins on the fault chart, 02 (h): what `clear`, `set` and `pull` answer on every input, and what the counts that are lent to them hold afterwards. A
-- reader needs `chart_clear`, `chart_set` and `chart_pull` and what they name; specs/Histories says what follows for pins set and pulled one after the
-- other. Assumes nothing.
use Rattle.std.specs.Prelude.{ℕ, ◌+◌, ◌-◌, Bool, true, false, not, ◌&&◌, ◌||◌, List, [], ◌∷◌, ◌++◌, ltb, eqb, ℤ, length, get_or, set, take, replicate}
use Rattle.ranged1d.specs.Answer.{Answer, given, none, refused, Reason, ◌when◌, lowest, written}
use Rattle.search.specs.declared.RoundingMethod.TheVariants.{Floor}
use Rattle.linspace.specs.List.{whole, stepped}
use Rattle.linspace.specs.Calls.{count_reasons, step_index_reasons, step_index_of}

-- ---- an answer that tells no more than that it is done
abbrev pub done : Answer Unit
done = given tt

-- whether an answer gives something, and the index that it gives; where there is none 0 stands for it, and no rule comes to that
abbrev pub is_given : {A : Type 0} → Answer A → Bool
is_given (given x) = true
is_given none = false
is_given (refused n) = false

abbrev pub found_at : Answer ℕ → ℕ
found_at (given k) = k
found_at none = 0
found_at (refused n) = 0

-- ---- a chart: 1,024 counts, however few entries its list has. It is the front of the lent memory, and what lies behind is no part of it.
abbrev pub chart_size : ℕ
chart_size = 1_024

abbrev pub chart_in : List ℕ → List ℕ
chart_in old = take chart_size old

-- an empty one: no pin at any entry
unfoldable pub empty_chart : List ℕ
empty_chart = replicate chart_size 0

-- 13: the lent memory is too short to hold one
abbrev pub no_chart : List ℕ → Bool
no_chart old = ltb (length old) chart_size

-- ---- what is done with a pin
pub data Deed : Type 0 where
  Setting : Deed
  Pulling : Deed

-- ---- what a deed does to a count: a pin more where it is set, a pin less where it is pulled
abbrev pub recounted : Deed → ℕ → ℕ
recounted Setting n = n + 1
recounted Pulling n = n - 1

-- 21: there are 65,535 pins already; 22: there is none to be pulled. Both are asked of a chart only, so that memory too short for one is 13.
abbrev pub count_reason : Deed → ℕ → Bool → Reason
count_reason Setting n held = 21 when (held && eqb n 65_535)
count_reason Pulling n held = 22 when (held && eqb n 0)

-- ---- the axis from a to b by the step d, whose list has the entries at which pins count
module _ (a b d : ℤ) where
  -- more entries than a chart has counts
  abbrev pub overlong : Bool
  overlong = ltb chart_size (length (stepped whole a b d))

  -- ---- `clear`: an empty chart; 1, 6 and 7 as where the entries are counted, then 20 for too many of them, and 13
  abbrev pub clear_reasons : List ℕ → List Reason
  clear_reasons old = count_reasons whole a b d ++ (20 when overlong ∷ 13 when no_chart old ∷ [])

  unfoldable pub chart_clear : List ℕ → Answer Unit × List ℕ
  chart_clear old = written (lowest (clear_reasons old) done) empty_chart old

  -- ---- where a pin counts: at the entry that a search down finds, by the rule of that search itself
  unfoldable pub pin_entry : ℤ → Answer ℕ
  pin_entry pin = step_index_of whole a b d pin Floor

  -- 20: it finds none, or there are too many entries; behind 1, 6 and 7 as where the pin is searched for
  abbrev pub no_entry : ℤ → Bool
  no_entry pin = overlong || not (is_given (pin_entry pin))

  abbrev pub entry_reasons : ℤ → List Reason
  entry_reasons pin = step_index_reasons whole a b d pin Floor ++ (20 when no_entry pin ∷ [])

  -- ---- `set` and `pull`: one count is changed, that at the pin's entry; 21 or 22 behind 20, and 13 behind both
  abbrev pub count_at : ℤ → List ℕ → ℕ
  count_at pin old = get_or old (found_at (pin_entry pin)) 0

  abbrev pub pin_reasons : Deed → ℤ → List ℕ → List Reason
  pin_reasons deed pin old = entry_reasons pin ++ (count_reason deed (count_at pin old) (not (no_chart old)) ∷ 13 when no_chart old ∷ [])

  abbrev pub pinned : Deed → ℤ → List ℕ → List ℕ
  pinned deed pin old = set (chart_in old) (found_at (pin_entry pin)) (recounted deed (count_at pin old))

  unfoldable pub chart_pin : Deed → ℤ → List ℕ → Answer Unit × List ℕ
  chart_pin deed pin old = written (lowest (pin_reasons deed pin old) done) (pinned deed pin old) old

  abbrev pub chart_set : ℤ → List ℕ → Answer Unit × List ℕ
  chart_set = chart_pin Setting

  abbrev pub chart_pull : ℤ → List ℕ → Answer Unit × List ℕ
  chart_pull = chart_pin Pulling
