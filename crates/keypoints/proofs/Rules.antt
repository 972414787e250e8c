-- The rules of the scale and of one mark, case by case as the code has them: what a test that was passed, and numbers that were worked out, say of the
-- rule. Assumes nothing.
use mathlib.Core.Path.{◌≡◌, ap, ◌∙◌}
use mathlib.Core.Bool.{true, false}
use Prim.Native.Nat.{ℕ, suc, ◌+◌, ◌-◌, ◌≤◌, ◌<◌}
use native.Mathlib.Omega.{arith}
use borrow.Author.Tests.{lt-ltb, le-ltb}
use lib.Ieee.{Float, lt, to_unsigned}
use Rattle.ranged1d.specs.Answer.{given, none}
use Rattle.rounding.specs.Integral.{floor_of, ceil_of, round_of}
use Rattle.rounding.specs.Operations.{◌⊕◌, ◌⊖◌, ◌⊗◌, ◌⊘◌}
use Rattle.decades.specs.Decade.{decade_of}
use Rattle.keypoints.specs.Scale.{nil, one, two, five, ten, unless_next, rest_of, first_mark, last_mark, points_by, scale_of, start_by, start_of, chosen}

-- ---- `rem_euclid`, of a step above 0 and of any other
pub rest-above : (x s f : Float) → f ≡ floor_of (x ⊘ s) → lt nil s ≡ true → unless_next s (x ⊖ f ⊗ s) ≡ rest_of x s
unfolding rest_of
rest-above x s f e h = ap (λ (q : Float). unless_next s (x ⊖ q ⊗ s)) e ∙ rw h

pub rest-other : (x s f : Float) → f ≡ ceil_of (x ⊘ s) → lt nil s ≡ false → unless_next s (x ⊖ f ⊗ s) ≡ rest_of x s
unfolding rest_of
rest-other x s f e h = ap (λ (q : Float). unless_next s (x ⊖ q ⊗ s)) e ∙ rw h

-- ---- the first mark
pub first-raised : (lo s r : Float) → r ≡ rest_of lo s → lt (lo ⊖ r) lo ≡ true → lo ⊖ r ⊕ s ≡ first_mark lo s
unfolding first_mark
first-raised lo s r e h = ap (λ (q : Float). lo ⊖ q ⊕ s) e ∙ rw (rw e at h)

pub first_itself : (lo s r : Float) → r ≡ rest_of lo s → lt (lo ⊖ r) lo ≡ false → lo ⊖ r ≡ first_mark lo s
unfolding first_mark
first_itself lo s r e h = ap (λ (q : Float). lo ⊖ q) e ∙ rw (rw e at h)

pub points_are : (lo hi old nxt l r q : Float) → l ≡ first_mark lo (old ⊘ nxt) → r ≡ last_mark hi (old ⊘ nxt) → q ≡ round_of (one ⊕ (r ⊖ l) ⊘ old ⊗ nxt) → to_unsigned 64 q ≡ points_by lo hi old nxt
unfolding points_by
points_are lo hi old nxt l r q e f g =
    ap (λ (z : Float). to_unsigned 64 z) g
    ∙ ap (λ (z : Float). to_unsigned 64 (round_of (one ⊕ (z ⊖ l) ⊘ old ⊗ nxt))) f
    ∙ ap (λ (z : Float). to_unsigned 64 (round_of (one ⊕ (last_mark hi (old ⊘ nxt) ⊖ z) ⊘ old ⊗ nxt))) e

-- ---- the first scale, by the decade of the length
module _ (lo hi : Float) (m : ℕ) where
  abbrev length_decade : Float
  length_decade = (decade_of (hi ⊖ lo)).value

  pub start_tenfold : m ≤ to_unsigned 64 (floor_of ((hi ⊖ lo) ⊘ length_decade)) → start_of lo hi m ≡ scale_of (length_decade ⊗ ten) (length_decade ⊘ ten ⊗ ten)
  unfolding start_by
  start_tenfold h = rw (lt-ltb m (1 + to_unsigned 64 (floor_of ((hi ⊖ lo) ⊘ length_decade))) (omega arith))

  pub start_itself : to_unsigned 64 (floor_of ((hi ⊖ lo) ⊘ length_decade)) < m → start_of lo hi m ≡ scale_of length_decade (length_decade ⊘ ten)
  unfolding start_by
  start_itself h = rw (le-ltb m (1 + to_unsigned 64 (floor_of ((hi ⊖ lo) ⊘ length_decade))) (omega arith))

-- ---- the rounds: k of 20 are over
module _ (lo hi : Float) (m k : ℕ) (s g : Float) (left : k < 20) where
  one_left : 20 - k ≡ suc (20 - (k + 1))
  one_left = omega arith

  pub takes_scale : m < points_by lo hi s two → chosen lo hi m (20 - k) s g ≡ given (scale_of s g)
  unfolding chosen
  takes_scale h = rw (one_left, lt-ltb m (points_by lo hi s two) h)

  pub takes_half : points_by lo hi s two ≤ m → m < points_by lo hi s five → chosen lo hi m (20 - k) s g ≡ given (scale_of (s ⊘ two) g)
  unfolding chosen
  takes_half h₂ h = rw (one_left, le-ltb m (points_by lo hi s two) h₂, lt-ltb m (points_by lo hi s five) h)

  pub takes_fifth : points_by lo hi s two ≤ m → points_by lo hi s five ≤ m → m < points_by lo hi s ten → chosen lo hi m (20 - k) s g ≡ given (scale_of (s ⊘ five) g)
  unfolding chosen
  takes_fifth h₂ h₅ h = rw (one_left, le-ltb m (points_by lo hi s two) h₂, le-ltb m (points_by lo hi s five) h₅, lt-ltb m (points_by lo hi s ten) h)

  pub goes_round : points_by lo hi s two ≤ m → points_by lo hi s five ≤ m → points_by lo hi s ten ≤ m → chosen lo hi m (20 - k) s g ≡ chosen lo hi m (20 - (k + 1)) (s ⊘ ten) (g ⊘ ten)
  unfolding chosen
  goes_round h₂ h₅ h = rw (one_left, le-ltb m (points_by lo hi s two) h₂, le-ltb m (points_by lo hi s five) h₅, le-ltb m (points_by lo hi s ten) h)

pub rounds_over : (lo hi : Float) (m k : ℕ) (s g : Float) → 20 ≤ k → chosen lo hi m (20 - k) s g ≡ none
unfolding chosen
rounds_over lo hi m k s g h = let z : 20 - k ≡ 0 = omega arith in rw z

-- what the answers to `start` and to `choose` go by
pub ruleset starts = (start_tenfold, start_itself)

pub ruleset rounds = (takes_scale, takes_half, takes_fifth, goes_round, rounds_over)
