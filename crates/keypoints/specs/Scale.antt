-- 02 (d), after the float form of key points in types/numeric.rs: the scale of a real axis from lo to hi, which is the step between its marks and the
-- granularity that they are held to. Every operation is one of the source's, in its order, and rounded as IEEE 754 has it. A reader needs `scale_for`.
-- Assumes nothing.
use Rattle.std.specs.Prelude.{ℕ, zero, suc, ◌+◌, Bool, cond, ◌&&◌, ltb, Float}
use Rattle.std.specs.Float.{binary64}
use Rattle.std.specs.Float.Ieee.{lt, neg, of_bits, to_unsigned}
use Rattle.ranged1d.specs.Answer.{Answer, given, none}
use Rattle.rounding.specs.Integral.{floor_of, ceil_of, round_of}
use Rattle.rounding.specs.Operations.{◌⊕◌, ◌⊖◌, ◌⊗◌, ◌⊘◌}
use Rattle.decades.specs.Decade.{decade_of}
use Rattle.keypoints.specs.declared.Scale.{Scale}

-- ---- the source's numbers: 0, 1, 2, 5, 10, and f64::EPSILON, 2 ^ -52
abbrev pub nil : Float
nil = of_bits binary64 0

abbrev pub one : Float
one = of_bits binary64 0x3FF0_0000_0000_0000

abbrev pub two : Float
two = of_bits binary64 0x4000_0000_0000_0000

abbrev pub five : Float
five = of_bits binary64 0x4014_0000_0000_0000

abbrev pub ten : Float
ten = of_bits binary64 0x4024_0000_0000_0000

abbrev pub epsilon : Float
epsilon = of_bits binary64 0x3CB0_0000_0000_0000

-- x is less than c in size; a NaN is not
unfoldable pub is_small : Float → Float → Bool
is_small c x = lt (neg c) x && lt x c

-- ---- `rem_euclid`: how far x lies past a multiple of s. What is nearer to s itself than EPSILON is taken for rounding, and is 0.
abbrev pub past_multiple : Float → Float → Float
past_multiple x s = cond (lt nil s) (x ⊖ floor_of (x ⊘ s) ⊗ s) (x ⊖ ceil_of (x ⊘ s) ⊗ s)

abbrev pub unless_next : Float → Float → Float
unless_next s r = cond (is_small epsilon (r ⊖ s)) nil r

unfoldable pub rest_of : Float → Float → Float
rest_of x s = unless_next s (past_multiple x s)

-- ---- the ends, each moved to a multiple of s: lo up, hi down
abbrev pub raised_to : Float → Float → Float → Float
raised_to lo s v = cond (lt v lo) (v ⊕ s) v

unfoldable pub first_mark : Float → Float → Float
first_mark lo s = raised_to lo s (lo ⊖ rest_of lo s)

unfoldable pub last_mark : Float → Float → Float
last_mark hi s = hi ⊖ rest_of hi s

-- how many marks there would be by the step old ÷ nxt, rounded, as a number of 64 bits
unfoldable pub points_by : Float → Float → Float → Float → ℕ
points_by lo hi old nxt = to_unsigned 64 (round_of (one ⊕ (last_mark hi (old ⊘ nxt) ⊖ first_mark lo (old ⊘ nxt)) ⊘ old ⊗ nxt))

-- ---- the choice
abbrev pub scale_of : Float → Float → Scale
scale_of s g = record { step = s; grain = g }

-- It begins with p, the decade of the length, as the step, and a tenth of p as the granularity; with ten times both where the length has so many whole
-- decades that one mark more than these is above m.
unfoldable pub start_by : Float → Float → ℕ → Float → Scale
start_by lo hi m p =
    cond (ltb m (1 + to_unsigned 64 (floor_of ((hi ⊖ lo) ⊘ p))))
    (scale_of (p ⊗ ten) (p ⊘ ten ⊗ ten))
    (scale_of p (p ⊘ ten))

abbrev pub start_of : Float → Float → ℕ → Scale
start_of lo hi m = start_by lo hi m (decade_of (hi ⊖ lo)).value

-- A round tries a half, a fifth and a tenth of the step s that it begins with. The first of them that would give more than m marks ends the choice, and the
-- step before it is taken, with the granularity of the round. If none does, a tenth of both goes into the next round. Here n rounds are left; a choice that
-- would need more has no scale.
unfoldable pub chosen : Float → Float → ℕ → ℕ → Float → Float → Answer Scale
chosen lo hi m zero s g = none
chosen lo hi m (suc n) s g =
    cond (ltb m (points_by lo hi s two)) (given (scale_of s g))
    (cond (ltb m (points_by lo hi s five)) (given (scale_of (s ⊘ two) g))
    (cond (ltb m (points_by lo hi s ten)) (given (scale_of (s ⊘ five) g))
    (chosen lo hi m n (s ⊘ ten) (g ⊘ ten))))

-- 02 (d): a 21st round is not begun
abbrev pub most_rounds : ℕ
most_rounds = 20

unfoldable pub scale_for : Float → Float → ℕ → Answer Scale
scale_for lo hi m = chosen lo hi m most_rounds (start_of lo hi m).step (start_of lo hi m).grain
