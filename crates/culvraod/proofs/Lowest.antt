-- The reasons of every rule are listed by rising places: computed, whatever the arguments are. Assumes nothing.
use Prim.Native.Nat.{ℕ}
use mathlib.Core.List.{List}
use lib.IntN.{ℤ}
use Rattle.ranged1d.specs.Answer.{rank}
use Rattle.linspace.specs.List.{Kind}
use Rattle.segmented.specs.Segments.{Axis}
use Rattle.chart.specs.Chart.{Deed, Setting, Pulling, pin_reasons}
use Rattle.culvraod.specs.Lowest.{Rising, StepsRise, SegmentsRise, LowestFirst}

steps_rise : {A : Type 0} (kind : Kind A) (a b d : A) → StepsRise kind a b d
unfolding rank
steps_rise kind a b d = record { values = λ old. tt; size = tt; index_of = λ v method. tt; map = λ v limit. tt; unmap = λ x limit. tt; key_points = λ m old. tt }

segments_rise : {A : Type 0} (axis : Axis A) → SegmentsRise axis
unfolding rank
segments_rise axis = record { size = tt; index_of = λ find s. tt; map = λ find s limit. tt; unmap = λ x limit. tt; key_points = λ m old. tt }

chart_pin_rises : (a b d : ℤ) (deed : Deed) (pin : ℤ) (old : List ℕ) → Rising (pin_reasons a b d deed pin old)
unfolding rank
chart_pin_rises a b d Setting pin old = tt
chart_pin_rises a b d Pulling pin old = tt

pub lowest-first : LowestFirst
unfolding rank
lowest-first = record {
  plan = λ admitted a b m. tt;
  key_points = λ admitted a b m new old. tt;
  from_index = λ a b k. tt;
  unmap = λ a b x limit. tt;
  unmap_directed = λ a b x limit. tt;
  week_running = λ l c. tt;
  whole_map = λ a b v limit. tt;
  map_exact = λ a b v limit. tt;
  real_map = λ a b v limit. tt;
  real_key_points_lem = λ a b m old. tt;
  search_whole = λ l t. tt;
  search_real = λ l t method. tt;
  stepped = steps_rise;
  segmented = segments_rise;
  chart_clear_lem = λ a b d old. tt;
  chart_entry_lem = λ a b d pin. tt;
  chart_pin_lem = chart_pin_rises;
  ruler_plan_lem = λ a b limit m. tt;
  ruler_write_lem = λ f a b limit m old. tt;
  ruler_twisted = λ c t a b limit m old. tt;
  film_write_lem = λ l t a b limit m old. tt;
  ruler_upgrade_lem = λ l old. tt;
  ruler_downgrade_lem = λ l old. tt;
  ruler_shift_lem = λ c l. tt;
  print = λ n h e old. tt;
  print_scientific = λ n h e old. tt;
  decimal_print = λ x f old. tt;
  decimal_read = λ s f. tt;
}
