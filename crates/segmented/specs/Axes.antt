-- The axes that segments stand on: 01 "Whole reading, segments, real labels" for the whole axis, 01 "Mirroring, real reading, stepped axes" for
-- the stepped ones. Assumes nothing.
use Rattle.std.specs.Prelude.{ℕ, false, cond, length, ℤ, pos, ◌+ℤ◌, nat_lt}
use Rattle.ranged1d.specs.Answer.{given, none}
use Rattle.ranged1d.specs.Admitted.{whole_admitted}
use Rattle.real.specs.Place.{whole_spot}
use Rattle.numeric.specs.Marks.{marks, no_step}
use Rattle.numeric.specs.Whole.{count_of, ends_admitted, index_from}
use Rattle.search.specs.Search.{search}
use Rattle.search.specs.Lists.{nan_target}
use Rattle.search.specs.declared.RoundingMethod.{RoundingMethod}
use Rattle.linspace.specs.List as list
use Rattle.linspace.specs.List.{Kind, stepped, axis_admitted}
use Rattle.linspace.specs.Calls.{nth, step_spot, step_marks, unserved}
use Rattle.segmented.specs.Segments.{Axis, Finder}

-- 4: as many values as an f32 counts one by one
abbrev pub most_values : ℕ
most_values = 16_777_216

-- ---- a whole axis: a and the values behind it up to b
abbrev pub whole_axis : ℤ → ℤ → Axis ℤ
whole_axis a b = record {
  admitted = ends_admitted a b;
  fit = whole_admitted;
  count = count_of a b;
  entry = λ k. cond (nat_lt k (count_of a b)) (given (a +ℤ pos k)) none;
  too_many = nat_lt most_values (count_of a b);
  against = false;
  too_long = false;
  spot = whole_spot a b;
  marks = marks a b;
  no_step = no_step a b;
}

-- the index of v is how far it lies past a, past the end too; none before a
abbrev pub whole_finder : ℤ → Finder ℤ
whole_finder a = record {
  index = index_from a;
  unsought = λ v. false;
}

-- ---- a stepped axis: its list
abbrev pub stepped_axis : {A : Type 0} → Kind A → A → A → A → Axis A
stepped_axis kind a b d = record {
  admitted = axis_admitted kind a b d;
  fit = kind.admitted;
  count = length (stepped kind a b d);
  entry = nth (stepped kind a b d);
  too_many = false;
  against = list.against kind a b d;
  too_long = list.too_long kind a b d;
  spot = step_spot kind a b d;
  marks = step_marks kind a b d;
  no_step = unserved kind a b d;
}

-- a search of the list; in one with an entry none but the exact one is made for a NaN, which is what does not equal itself
abbrev pub stepped_finder : {A : Type 0} → Kind A → A → A → A → RoundingMethod → Finder A
stepped_finder kind a b d method = record {
  index = λ v. search kind.numbers v method (stepped kind a b d);
  unsought = λ v. nan_target kind.numbers v method (length (stepped kind a b d));
}
