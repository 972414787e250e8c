-- Where a value of an axis falls on the film between the limits p and q, and which calls for a place are refused. Assumes nothing.
use Rattle.std.specs.Prelude.{ℕ, zero, suc, Bool, true, false, not, cond, ◌&&◌, List, [], ◌∷◌, ℤ, pos, negsuc, ◌+ℤ◌, ◌-ℤ◌, Float, Option, Some, None}
use Rattle.std.specs.Int.Signed.{quot_z}
use Rattle.std.specs.Float.Ieee as Ieee
use Rattle.std.specs.Float.{inf, binary64}
use Rattle.ranged1d.specs.Answer.{Answer, given, ◌when◌, lowest, Reason}
use Rattle.ranged1d.specs.Admitted.{whole_admitted, ends_admitted, limit_admitted}
use Rattle.ranged1d.specs.declared.Limit.{Limit}
use Rattle.rounding.specs.Within.{floor_within, ceil_within}

-- ---- 01 "Places on the film"
-- t, the share of the way from a to b at which v lies: two differences and their quotient, each rounded
abbrev pub share : Float → Float → Float → Float
share a b v = Ieee.div binary64 (Ieee.sub binary64 v a) (Ieee.sub binary64 b a)

-- L times t
abbrev pub product : ℤ → Float → Float
product l t = Ieee.mul binary64 (Ieee.of_int binary64 l) t

-- the f64 nearest to 0.001
abbrev pub milli : Float
milli = Ieee.of_bits binary64 0x3F50_624D_D2F1_A9FC

-- 01 "Why a call stops", 5: as far from 0 the whole number that is added to p may be
abbrev pub farthest : ℕ
farthest = 1_000_000_000

-- The whole number that is added to p. On a film that runs upward, L above 0, it is the floor of a thousandth more than the product; on
-- one that runs downward, the ceiling of a thousandth less. The whole number of a NaN is 0 (rounding's `within`), and the sum is a NaN
-- exactly where t is (proofs/Nan).
unfoldable pub rising : ℤ → Float → Option ℤ
rising l t = floor_within farthest (Ieee.add binary64 (product l t) milli)

unfoldable pub falling : ℤ → Float → Option ℤ
falling l t = ceil_within farthest (Ieee.sub binary64 (product l t) milli)

-- p and that whole number, if it is not beyond
abbrev pub plus : ℤ → Option ℤ → Option ℤ
plus p (Some n) = Some (p +ℤ n)
plus p None = None

-- an infinite t leads to the end q, a negative one to p; w is for any other t
abbrev pub or_end : ℤ → ℤ → Float → Option ℤ → Option ℤ
or_end p q t w = cond (Ieee.eq t (inf false)) (Some q) (cond (Ieee.eq t (inf true)) (Some p) w)

-- the place at the share t, by L: a film without length has the one place q, whatever t is
unfoldable pub along : ℤ → ℤ → ℤ → Float → Option ℤ
along p q (pos zero) t = Some q
along p q (pos (suc n)) t = or_end p q t (plus p (rising (pos (suc n)) t))
along p q (negsuc n) t = or_end p q t (plus p (falling (negsuc n) t))

-- The place of v on the axis from a to b, L being q − p. Ends that are equal, as −0.0 and 0.0 are, come before all else: half of L, cut
-- toward 0, is the place itself, not a distance from p.
unfoldable pub spot : Float → Float → Float → Limit → Option ℤ
spot a b v limit =
    cond (Ieee.eq a b)
    (Some (quot_z (limit.1 -ℤ limit.0) (pos 2)))
    (along limit.0 limit.1 (limit.1 -ℤ limit.0) (share a b v))

-- ---- 01 "Why a call stops": the calls
-- the whole number added to p is beyond what it may be
abbrev pub is_beyond : Option ℤ → Bool
is_beyond (Some z) = false
is_beyond None = true

-- the place; where it is beyond, 5 is met, and this is not asked
abbrev pub number : Option ℤ → ℤ
number (Some z) = z
number None = pos 0

-- a place that is looked for, or 5
abbrev pub spot_answer : Option ℤ → Answer ℤ
spot_answer w = lowest (5 when is_beyond w ∷ []) (given (number w))

-- a place on a real axis: 2 where a limit is not admitted, 5 where the whole number is beyond
abbrev pub real_place_reasons : Float → Float → Float → Limit → List Reason
real_place_reasons a b v limit = 2 when not (limit_admitted limit) ∷ 5 when is_beyond (spot a b v limit) ∷ []

unfoldable pub real_place : Float → Float → Float → Limit → Answer ℤ
real_place a b v limit = lowest (real_place_reasons a b v limit) (given (number (spot a b v limit)))

-- The same rule on a whole axis, ends and value taken as f64, which holds each of them.
abbrev pub whole_spot : ℤ → ℤ → ℤ → Limit → Option ℤ
whole_spot a b v limit = spot (Ieee.of_int binary64 a) (Ieee.of_int binary64 b) (Ieee.of_int binary64 v) limit

-- a place on a whole axis: before 2 and 5, 1 where an end or the value is not admitted
abbrev pub whole_place_reasons : ℤ → ℤ → ℤ → Limit → List Reason
whole_place_reasons a b v limit =
    1 when not (ends_admitted a b && whole_admitted v)
    ∷ real_place_reasons (Ieee.of_int binary64 a) (Ieee.of_int binary64 b) (Ieee.of_int binary64 v) limit

unfoldable pub whole_place : ℤ → ℤ → ℤ → Limit → Answer ℤ
whole_place a b v limit = lowest (whole_place_reasons a b v limit) (given (number (whole_spot a b v limit)))
