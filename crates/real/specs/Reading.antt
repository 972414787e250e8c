-- The value that a real axis has at a pixel of the film, and which calls for a reading are refused. Assumes nothing.
use Rattle.std.specs.Prelude.{Bool, not, cond, ◌||◌, [], ◌∷◌, ℤ, ◌-ℤ◌, Float}
use Rattle.std.specs.Int.Signed.{lt_z}
use Rattle.std.specs.Float.Ieee as Ieee
use Rattle.std.specs.Float.{binary64}
use Rattle.ranged1d.specs.Answer.{Answer, given, none, ◌when◌, lowest}
use Rattle.ranged1d.specs.Admitted.{reading_admitted}
use Rattle.ranged1d.specs.declared.Limit.{Limit}
use Rattle.ranged1d.specs.Numbers.{same, low, high}

-- ---- 01 "Mirroring, real reading, stepped axes": which pixels can be read
-- x lies before both limits or past both
abbrev pub outside : ℤ → ℤ → ℤ → Bool
outside x p q = lt_z x (low p q) || lt_z (high p q) x

-- ---- 01 "Mirroring, real reading, stepped axes": the value
-- the share of the film at which x lies
abbrev pub offset : ℤ → ℤ → ℤ → Float
offset x p q = Ieee.div binary64 (Ieee.of_int binary64 (x -ℤ p)) (Ieee.of_int binary64 (q -ℤ p))

-- the value at that share t of the axis: difference, product and sum, each rounded, with the operands in the source's order
abbrev pub value_at : Float → Float → Float → Float
value_at a b t = Ieee.add binary64 (Ieee.mul binary64 (Ieee.sub binary64 b a) t) a

-- ---- 01 "Why a call stops": the call. 2 where the pixel or a limit is not admitted; then none off the film and on a film without length,
-- whose limits are the same
unfoldable pub real_reading : Float → Float → ℤ → Limit → Answer Float
real_reading a b x limit =
    lowest (2 when not (reading_admitted x limit) ∷ [])
    (cond (outside x limit.0 limit.1 || same limit.0 limit.1) none (given (value_at a b (offset x limit.0 limit.1))))
