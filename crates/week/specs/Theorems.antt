-- 02 (l): what may be relied on of the two calls together, stated over the rules that they promise, so over what they answer, refusals among it.
-- `undone` of proofs/Theorems proves `Undone l` of every list of numbers l. Assumes nothing.
use Rattle.std.specs.Prelude.{ℕ, ◌+◌, ◌-◌, ◌≤◌, ◌<◌, ◌≡◌, false, List, [], ◌∷◌, ◌↔◌}
use Rattle.ranged1d.specs.Answer.{given, none}
use Rattle.week.specs.Week.{Window, windows_of, bad_week, runs, passing, running_minute, clock_minute}

-- the total: all window minutes of the week
abbrev pub total : List Window → ℕ
total w = passing (runs w) 10_080

-- the lengths of the windows, all together
abbrev pub lengths : List Window → ℕ
lengths [] = 0
lengths (v ∷ w) = (v.end - v.first) + lengths w

pub record Undone (l : List ℕ) : Type 0 where
  -- each undoes the other
  pub there_and_back : (c r : ℕ) → running_minute l c ≡ given r → clock_minute l r ≡ given c
  pub back_and_there : (c r : ℕ) → clock_minute l r ≡ given c → running_minute l c ≡ given r
  -- running minutes rise with clock minutes
  pub rises : (c c' r r' : ℕ) → running_minute l c ≡ given r → running_minute l c' ≡ given r' → c < c' → r < r'
  -- where the windows are a running week: there is none exactly outside the windows, and none exactly from the total on
  pub none_outside : bad_week l ≡ false → (c : ℕ) → c ≤ 10_079 → (running_minute l c ≡ none) ↔ (runs (windows_of l) c ≡ false)
  pub none_beyond : bad_week l ≡ false → (r : ℕ) → (clock_minute l r ≡ none) ↔ (total (windows_of l) ≤ r)
  -- every running minute below the total has its clock minute
  pub every_minute : bad_week l ≡ false → (r : ℕ) → r < total (windows_of l) → (c : ℕ) × (clock_minute l r ≡ given c)
  -- the total is the sum of the windows' lengths
  pub sum_of_lengths : bad_week l ≡ false → total (windows_of l) ≡ lengths (windows_of l)
