-- 02 (a): what the marks on the axis are. `on_axis` of proofs/OnAxis proves `OnAxis a b m` wherever a step serves. Assumes nothing.
use Rattle.std.specs.Prelude.{ℕ, ◌+◌, ◌≤◌, ◌<◌, Bool, cond, ◌&&◌, ◌↔◌, ◌≡◌, ℤ, pos, ◌+ℤ◌, ◌*ℤ◌, length, get_or, ◌≤ℤ◌}
use mathlib.Core.List.{List, [], ◌∷◌, Memᴰ}
use Rattle.std.specs.Int.Signed.{le_z}
use Rattle.numeric.specs.declared.Choice.TheVariants.{Inside}
use Rattle.numeric.specs.Marks.{low, high, step_of, marks, marks_by}

-- the entries that pass a test, in their order
abbrev pub kept : {A : Type 0} → (A → Bool) → List A → List A
kept p [] = []
kept p (x ∷ xs) = cond (p x) (x ∷ kept p xs) (kept p xs)

-- z is a multiple of s; z lies from lo to hi, both included
abbrev pub IsMultiple : ℕ → ℤ → Type 0
IsMultiple s z = (k : ℤ) × (z ≡ k *ℤ pos s)

abbrev pub lies_on : ℤ → ℤ → ℤ → Bool
lies_on lo hi z = le_z lo z && le_z z hi

pub record OnAxis (a b : ℤ) (m : ℕ) : Type 0 where
  -- a number is a mark exactly where it is a multiple of the step that lies on the axis
  pub exactly : (z : ℤ) → Memᴰ z (marks_by Inside a b m) ↔ (IsMultiple (step_of a b m) z × (low a b ≤ℤ z) × (z ≤ℤ high a b))
  -- the marks ascend, each a step past the one before it
  pub ascending : (k : ℕ) → k + 1 < length (marks_by Inside a b m) → get_or (marks_by Inside a b m) (k + 1) (pos 0) ≡ get_or (marks_by Inside a b m) k (pos 0) +ℤ pos (step_of a b m)
  -- they are the marks that plotters gives, without those that lie off the axis
  pub those_of_plotters : marks_by Inside a b m ≡ kept (lies_on (low a b) (high a b)) (marks a b m)
  pub few : length (marks_by Inside a b m) ≤ m + 1
