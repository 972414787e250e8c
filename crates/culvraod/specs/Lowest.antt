-- 01 "Why a call stops": of the refusals that apply a call returns the lowest. A rule lists its reasons, and the first that applies decides; here it is said of
-- every list with more than one reason that their places rise, on every input. With `lowest_is_least` of ranged1d/proofs/Lowest the first that applies is then
-- the lowest that does. `lowest-first` of proofs/Lowest proves it. Assumes nothing.
use Rattle.std.specs.Prelude.{ℕ, Bool, List, ◌∷◌, T, ℤ, Float}
use Rattle.ranged1d.specs.Answer.{Reason, ◌when◌, rising}
use Rattle.ranged1d.specs.declared.Limit.{Limit}
use Rattle.keypoints.specs.Marks.{real_key_points_reasons}
use Rattle.real.specs.Place.{real_place_reasons, whole_place_reasons}
use Rattle.real.specs.Exact.{exact_reasons}
use Rattle.numeric.specs.Whole.{from_index_reasons, reading_reasons}
use Rattle.numeric.specs.Directed.{directed_reasons}
use Rattle.week.specs.Week.{running_reasons}
use Rattle.numeric.specs.Calls.{key_points_reasons, plan_reasons}
use Rattle.search.specs.declared.RoundingMethod.{RoundingMethod}
use Rattle.search.specs.Lists.{whole_search_reasons, real_search_reasons}
use Rattle.linspace.specs.List.{Kind}
use Rattle.linspace.specs.Calls as steps
use Rattle.chart.specs.Chart.{Deed, clear_reasons, entry_reasons, pin_reasons}
use Rattle.segmented.specs.Values.{Segment}
use Rattle.segmented.specs.Segments.{Axis, Finder}
use Rattle.segmented.specs.Segments as segments
use Rattle.numeric.specs.declared.Choice.{Choice}
use Rattle.numeric.specs.declared.Choice.TheVariants.{Inside}
use Rattle.ruler.specs.declared.Form.{Form}
use Rattle.ruler.specs.Rule.{no_ruler, write_reasons_by, twisted_reasons, upgrade_reasons, downgrade_reasons}
use Rattle.ruler.specs.Shifting.{shift_reasons}
use Rattle.film.specs.Film.{no_film}
use Rattle.float.specs.Calls.{print_reasons, scientific_reasons}
use Rattle.fixed.specs.Fixed.{fixed_reasons, fixed_read_reasons}

abbrev pub Rising : List Reason → Type 0
Rising rs = T (rising 0 rs)

-- a stepped axis of either kind
pub record StepsRise {A : Type 0} (kind : Kind A) (a b d : A) : Type 0 where
  pub values : (old : List A) → Rising (steps.values_reasons kind a b d old)
  pub size : Rising (steps.count_reasons kind a b d)
  pub index_of : (v : A) (method : RoundingMethod) → Rising (steps.step_index_reasons kind a b d v method)
  pub map : (v : A) (limit : Limit) → Rising (steps.step_place_reasons kind a b d v limit)
  pub unmap : (x : ℤ) (limit : Limit) → Rising (steps.step_reading_reasons kind a b d x limit)
  pub key_points : (m : ℕ) (old : List A) → Rising (steps.step_key_points_reasons kind a b d m old)

-- segments over any axis
pub record SegmentsRise {A : Type 0} (axis : Axis A) : Type 0 where
  pub size : Rising (segments.count_reasons axis)
  pub index_of : (find : Finder A) (s : Segment A) → Rising (segments.segment_index_reasons axis find s)
  pub map : (find : Finder A) (s : Segment A) (limit : Limit) → Rising (segments.segment_place_reasons axis find s limit)
  pub unmap : (x : ℤ) (limit : Limit) → Rising (segments.segment_reading_reasons axis x limit)
  pub key_points : (m : ℕ) (old : List A) → Rising (segments.segment_key_points_reasons axis m old)

pub record LowestFirst : Type 1 where
  pub plan : (admitted : Bool) (a b : ℤ) (m : ℕ) → Rising (plan_reasons admitted a b m)
  pub key_points : {A : Type 0} (admitted : Bool) (a b : ℤ) (m : ℕ) (new old : List A) → Rising (key_points_reasons admitted a b m new old)
  pub from_index : (a b : ℤ) (k : ℕ) → Rising (from_index_reasons a b k)
  pub unmap : (a b x : ℤ) (limit : Limit) → Rising (reading_reasons a b x limit)
  pub unmap_directed : (a b x : ℤ) (limit : Limit) → Rising (directed_reasons a b x limit)
  pub week_running : (l : List ℕ) (c : ℕ) → Rising (running_reasons l c)
  pub whole_map : (a b v : ℤ) (limit : Limit) → Rising (whole_place_reasons a b v limit)
  pub map_exact : (a b v : ℤ) (limit : Limit) → Rising (exact_reasons a b v limit)
  pub real_map : (a b v : Float) (limit : Limit) → Rising (real_place_reasons a b v limit)
  pub real_key_points_lem : (a b : Float) (m : ℕ) (old : List Float) → Rising (real_key_points_reasons a b m old)
  pub search_whole : (l : List ℤ) (t : ℤ) → Rising (whole_search_reasons l t)
  pub search_real : (l : List Float) (t : Float) (method : RoundingMethod) → Rising (real_search_reasons l t method)
  pub stepped : {A : Type 0} (kind : Kind A) (a b d : A) → StepsRise kind a b d
  pub segmented : {A : Type 0} (axis : Axis A) → SegmentsRise axis
  pub chart_clear_lem : (a b d : ℤ) (old : List ℕ) → Rising (clear_reasons a b d old)
  pub chart_entry_lem : (a b d pin : ℤ) → Rising (entry_reasons a b d pin)
  pub chart_pin_lem : (a b d : ℤ) (deed : Deed) (pin : ℤ) (old : List ℕ) → Rising (pin_reasons a b d deed pin old)
  pub ruler_plan_lem : (a b : ℤ) (limit : Limit) (m : ℕ) → Rising (no_ruler a b limit m)
  pub ruler_write_lem : (f : Form) (a b : ℤ) (limit : Limit) (m : ℕ) (old : List ℕ) → Rising (write_reasons_by f a b limit m old)
  pub ruler_twisted : (c : Choice) (t : ℕ) (a b : ℤ) (limit : Limit) (m : ℕ) (old : List ℕ) → Rising (twisted_reasons c t a b limit m old)
  pub film_write_lem : (l : List ℤ) (t : ℕ) (a b : ℤ) (limit : Limit) (m : ℕ) (old : List ℕ) → Rising (23 when no_film l ∷ twisted_reasons Inside t a b limit m old)
  pub ruler_upgrade_lem : (l old : List ℕ) → Rising (upgrade_reasons l old)
  pub ruler_downgrade_lem : (l old : List ℕ) → Rising (downgrade_reasons l old)
  pub ruler_shift_lem : (c : ℤ) (l : List ℕ) → Rising (shift_reasons c l)
  pub print : (n : Float) (h e : ℕ) (old : List ℕ) → Rising (print_reasons n h e old)
  pub print_scientific : (n : Float) (h e : ℕ) (old : List ℕ) → Rising (scientific_reasons n h e old)
  pub decimal_print : (x : ℤ) (f : ℕ) (old : List ℕ) → Rising (fixed_reasons x f old)
  pub decimal_read : (s : List ℕ) (f : ℕ) → Rising (fixed_read_reasons s f)
