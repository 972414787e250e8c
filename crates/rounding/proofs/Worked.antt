-- Floors, ceilings and rounded numbers that the definitions give, one for each case that is easily got wrong. Assumes nothing.
use Rattle.std.specs.Prelude.{Some, None}
use Rattle.std.proofs.Common.{◌≡◌, true, false, [], ◌∷◌, map, pos, negsuc, refl}
use lib.Ieee.{nan, inf, fin, round}
use Rattle.rounding.specs.Integral.{integral, floor_of, ceil_of, round_of, round_of32}
use Rattle.rounding.specs.Within.{whole_of, within, floor_within, ceil_within, round_within}

-- 2.5 and −2.5 have the floors 2 and −3, and −0 keeps its sign; 2 ^ 52 − 0.5 is the last number with a fraction, and 2 ^ 53 + 2 has none
floors_are : map floor_of (fin false 5 (negsuc 0) ∷ fin true 5 (negsuc 0) ∷ fin true 0 (pos 0) ∷ fin false 9007199254740991 (negsuc 0) ∷ fin false 4503599627370497 (pos 1) ∷ [])
    ≡ fin false 1 (pos 1) ∷ fin true 3 (pos 0) ∷ fin true 0 (pos 0) ∷ fin false 4503599627370495 (pos 0) ∷ fin false 4503599627370497 (pos 1) ∷ []
unfolding integral round
floors_are = refl

-- −0.5 gives its sign to its ceiling, and the smallest number above zero has the ceiling 1
ceils_are : map ceil_of (fin true 1 (negsuc 0) ∷ fin false 1 (negsuc 1073) ∷ []) ≡ fin true 0 (pos 0) ∷ fin false 1 (pos 0) ∷ []
unfolding integral round
ceils_are = refl

-- halves go away from zero, and the number just below 0.5 goes to it
rounds_are : map round_of (fin false 5 (negsuc 0) ∷ fin true 5 (negsuc 0) ∷ fin false 9007199254740991 (negsuc 53) ∷ []) ≡ fin false 3 (pos 0) ∷ fin true 3 (pos 0) ∷ fin false 0 (pos 0) ∷ []
unfolding integral round
rounds_are = refl

-- of an f32, 2 ^ 23 − 0.5 is the last number with a fraction
round-last : round_of32 (fin false 16777215 (negsuc 0)) ≡ fin false 1 (pos 23)
unfolding integral round
round-last = refl

-- within 5: the floor of −5.5 is not, its ceiling is; of 5.5 the floor is, and the rounded number is not
within-five : floor_within 5 (fin true 11 (negsuc 0)) ∷ ceil_within 5 (fin true 11 (negsuc 0)) ∷ floor_within 5 (fin false 11 (negsuc 0)) ∷ round_within 5 (fin false 11 (negsuc 0)) ∷ []
    ≡ None ∷ Some (negsuc 4) ∷ Some (pos 5) ∷ None ∷ []
unfolding within whole_of
within-five = refl

-- a NaN counts as 0, and an infinity is beyond every bound
within_odd : floor_within 0 nan ∷ ceil_within 4294967295 (inf true) ∷ [] ≡ Some (pos 0) ∷ None ∷ []
unfolding within
within_odd = refl
