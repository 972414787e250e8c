-- The mirror theorem for the marks of a whole axis: demand 3, and 01 "Mirroring, real reading, stepped axes". It is stated over the
-- rules that the calls promise. `mirror` of proofs/Mirror proves `Mirrored a b m` of all a, b and m. Assumes nothing.
use Rattle.std.specs.Prelude.{ℕ, ◌%◌, false, cond, List, [], ◌∷◌, ◌++◌, map, reverse, ◌⊎◌, ◌↔◌, ◌≡◌, ℤ, pos, neg_ℤ, nat_abs, ◌*ℤ◌, length, ◌≤ℤ◌, ◌<ℤ◌}
use Rattle.std.specs.Int.Signed.{lt_z}
use Rattle.ranged1d.specs.Answer.{Answer, given, and_then, BothLong}
use Rattle.ranged1d.specs.Admitted.{ends_admitted}
use Rattle.numeric.specs.Marks.{low, high, no_step, step_of, marks}
use Rattle.numeric.specs.Calls.{plan_reasons, whole_key_points}

-- ---- the words of the statement
-- marks of an axis and of its mirror match when negated and in reverse order
abbrev pub mirrored : List ℤ → List ℤ
mirrored l = reverse (map neg_ℤ l)

-- the needle nearest zero: zero itself if the axis holds it, otherwise the end nearer to zero
abbrev pub nearest : ℤ → ℤ → ℤ
nearest lo hi = cond (lt_z (pos 0) lo) lo (cond (lt_z hi (pos 0)) hi (pos 0))

abbrev pub nearest_zero : ℤ → ℤ → ℤ
nearest_zero a b = nearest (low a b) (high a b)

abbrev pub Divides : ℕ → ℤ → Type 0
Divides s z = nat_abs z % s ≡ 0

-- e is the next multiple of s past z, a needle below zero, on the way toward zero: a multiple, past z and not past zero, and every
-- other multiple past z lies no nearer to z
pub record NextTowardZero (s : ℕ) (z e : ℤ) : Type 0 where
  pub multiple : (k : ℤ) × (e ≡ k *ℤ pos s)
  pub past : z <ℤ e
  pub toward_zero : e ≤ℤ pos 0
  pub next : (k : ℤ) → z <ℤ (k *ℤ pos s) → e ≤ℤ (k *ℤ pos s)

-- the list `more`, of the half below zero with z its needle nearest zero, has exactly one mark more than `fewer`, of the other half:
-- its last, the next multiple past z; all others match
pub record OneMore (s : ℕ) (z : ℤ) (more fewer : List ℤ) : Type 0 where
  pub extra : ℤ
  pub is_next : NextTowardZero s z extra
  pub others_match : more ≡ mirrored fewer ++ (extra ∷ [])

-- an answer of `key_points`, but for the count
abbrev pub step_only : Answer (ℤ × ℕ) → Answer ℤ
step_only r = and_then r (λ x. given x.0)

-- ---- the statement, for the axis (a, b) and its mirror (−a, −b) under the same mark limit
pub record Mirrored (a b : ℤ) (m : ℕ) : Type 0 where
  -- with lists lent that are long enough on both sides or too short on both, where there are marks to write: refused on both sides with the
  -- same number, or accepted on both, with the same step
  pub same_verdict : (old old' : List ℤ) → BothLong (plan_reasons (ends_admitted a b) a b m) (length (marks a b m)) old (length (marks (neg_ℤ a) (neg_ℤ b) m)) old'
      → step_only (whole_key_points (neg_ℤ a) (neg_ℤ b) m old').0 ≡ step_only (whole_key_points a b m old).0
  -- no step serves on both sides or on neither, and the step is the same
  pub same_refusal : no_step (neg_ℤ a) (neg_ℤ b) m ≡ no_step a b m
  pub same_step : step_of (neg_ℤ a) (neg_ℤ b) m ≡ step_of a b m
  -- where a step serves: the marks match exactly when the step divides the needle nearest zero
  pub match_exactly : no_step a b m ≡ false → (marks (neg_ℤ a) (neg_ℤ b) m ≡ mirrored (marks a b m)) ↔ Divides (step_of a b m) (nearest_zero a b)
  -- otherwise the axis lies below zero or above it,
  pub one_half : (Divides (step_of a b m) (nearest_zero a b) → ⊥) → (high a b <ℤ pos 0) ⊎ (pos 0 <ℤ low a b)
  -- and the half below zero, which is this axis or its mirror, has exactly one mark more
  pub one_more_below : no_step a b m ≡ false → (Divides (step_of a b m) (nearest_zero a b) → ⊥) → high a b <ℤ pos 0 → OneMore (step_of a b m) (high a b) (marks a b m) (marks (neg_ℤ a) (neg_ℤ b) m)
  pub one_more_above : no_step a b m ≡ false → (Divides (step_of a b m) (nearest_zero a b) → ⊥) → pos 0 <ℤ low a b → OneMore (step_of a b m) (neg_ℤ (low a b)) (marks (neg_ℤ a) (neg_ℤ b) m) (marks a b m)
