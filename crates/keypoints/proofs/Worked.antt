-- The rows of specs/Worked, computed from the rule. Assumes nothing.
use mathlib.Core.Bool.{Bool, false}
use mathlib.Core.List.{List, [], ◌∷◌, map}
use Prim.Native.Nat.{ℕ}
use lib.Dec.{T, eqb}
use lib.Ieee as Ieee
use lib.Ieee.{Float, binary64, of_bits, eq}
use Rattle.ranged1d.specs.Answer.{Answer, given, none, refused, ◌when◌, lowest}
use Rattle.ranged1d.specs.Numbers.{every, same_each}
use Rattle.rounding.specs.Integral.{integral}
use Rattle.decades.specs.Powers.{power}
use Rattle.decades.specs.Decade.{last_of, decade_index, decade_of}
use Rattle.keypoints.specs.Scale.{is_small, rest_of, first_mark, last_mark, points_by, start_by, chosen, scale_for}
use Rattle.keypoints.specs.Marks.{passes, shifted, marks_from, marks_by, end_admitted, marks_for, real_marks, unmarked_for, unmarked}
use Rattle.keypoints.specs.Worked.{Row, rows}

abbrev same : Answer (List ℕ) → Answer (List Float) → Bool
same (given l) (given m) = same_each eq (map (of_bits binary64) l) m
same (given l) none = false
same (given l) (refused n) = false
same none y = false
same (refused k) (given m) = false
same (refused k) none = false
same (refused k) (refused n) = eqb k n

abbrev marks : Float → Float → ℕ → Answer (List Float)
marks a b m = lowest (17 when unmarked a b m ∷ []) (given (real_marks a b m))

abbrev holds : Row → Bool
holds r = same r.says (marks (of_bits binary64 r.a) (of_bits binary64 r.b) r.m)

worked : T (every holds rows)
unfolding real_marks marks_for unmarked unmarked_for scale_for end_admitted marks_by marks_from passes shifted start_by chosen points_by is_small rest_of first_mark last_mark decade_of decade_index last_of power integral eq of_bits Ieee.round Ieee.le Ieee.lt Ieee.neg Ieee.add Ieee.sub Ieee.mul Ieee.div Ieee.to_unsigned
worked = tt
