-- The worked readings, checked by one equation that antt computes over the table. Assumes nothing.
use mathlib.Core.Path.{◌≡◌, refl}
use mathlib.Core.Bool.{false}
use mathlib.Core.List.{map}
use Prim.Native.Nat.{◌*◌, ◌<◌}
use native.Mathlib.Omega.{arith}
use lib.IntN.{ℤ, pos, nat_abs, ◌-ℤ◌}
use lib.Ieee.{eq, sub, div, mul, add, of_int, of_bits}
use Rattle.ranged1d.specs.Answer.{given}
use Rattle.ranged1d.specs.Admitted.{limit_of}
use Rattle.ranged1d.specs.declared.Limit.{Limit}
use Rattle.rounding.specs.Within.{whole_of, within}
use Rattle.real.specs.Place.{rising, falling, along, spot, whole_place}
use Rattle.real.specs.Reading.{outside}
use Rattle.real.specs.Exact.{pixels, distance}
use Rattle.discrete.specs.Index.{floor_div, no_index, index_by}
use Rattle.numeric.specs.Whole.{count_of, whole_reading}
use Rattle.numeric.specs.Directed.{directed_value, whole_directed}
use Rattle.numeric.specs.WorkedReadings.{Reading, readings, directed_readings}

pub worked : map (λ (r : Reading). whole_reading r.a r.b r.x r.limit) readings ≡ map (λ (r : Reading). r.says) readings
unfolding floor_div no_index index_by count_of whole_reading
worked = refl

pub worked_directed : map (λ (r : Reading). whole_directed r.a r.b r.x r.limit) directed_readings ≡ map (λ (r : Reading). r.says) directed_readings
unfolding floor_div no_index index_by directed_value whole_directed
worked_directed = refl

-- ---- wrong, 02 (m) on a whole axis: within what a pixel is worth. On 0..1 and a film of one pixel, needle 1 is placed at 1 and read there as 2.
abbrev NoNeedleMore : Type 0
NoNeedleMore =
    (a b v place reading : ℤ) (limit : Limit) → outside v a b ≡ false → whole_place a b v limit ≡ given place → whole_directed a b place limit ≡ given reading
    → nat_abs (reading -ℤ v) * pixels limit < distance a b

pub not_no_needle_more : NoNeedleMore → ⊥
unfolding floor_div no_index index_by directed_value whole_directed whole_place spot along rising falling within whole_of eq sub div mul add of_int of_bits
not_no_needle_more h =
    let n : 1 * 1 < 1 = h (pos 0) (pos 1) (pos 1) (pos 1) (pos 2) (limit_of (pos 0) (pos 1)) refl refl refl in
    let z : ⊥ = omega (arith, n) in z
