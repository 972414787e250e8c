-- The rows of specs/Worked. Assumes nothing.
use Prim.Native.Nat.{ℕ, ◌≤◌}
use mathlib.Core.Path.{◌≡◌, refl}
use mathlib.Core.List.{List, map}
use native.Mathlib.Omega.{arith}
use Rattle.ranged1d.specs.Answer.{Answer, given, none}
use Rattle.week.specs.Week.{windows_of, passing, running_minute, clock_minute}
use Rattle.week.specs.Theorems.{total}
use Rattle.week.specs.Worked.{windows, runnings, clocks, weeks}
use Rattle.week.proofs.Theorems.{undone}

-- by computing the rule
pub runnings_worked : map (λ (r : ℕ × Answer ℕ). running_minute windows r.0) runnings ≡ map (λ (r : ℕ × Answer ℕ). r.1) runnings
unfolding running_minute passing
runnings_worked = refl

pub weeks_worked : map (λ (r : List ℕ × Answer ℕ). running_minute r.0 10080) weeks ≡ map (λ (r : List ℕ × Answer ℕ). r.1) weeks
unfolding running_minute
weeks_worked = refl

-- by the theorem, from the running minutes and the total
at_0 : clock_minute windows 0 ≡ given 60
unfolding running_minute passing
at_0 = (undone windows).there_and_back 60 0 refl

at_59 : clock_minute windows 59 ≡ given 119
unfolding running_minute passing
at_59 = (undone windows).there_and_back 119 59 refl

at_60 : clock_minute windows 60 ≡ given 200
unfolding running_minute passing
at_60 = (undone windows).there_and_back 200 60 refl

at_119 : clock_minute windows 119 ≡ given 259
unfolding running_minute passing
at_119 = (undone windows).there_and_back 259 119 refl

at_120 : clock_minute windows 120 ≡ none
at_120 =
    let t : total (windows_of windows) ≤ 120 = omega (arith, (undone windows).sum_of_lengths refl) in
    ((undone windows).none_beyond refl 120).1 t

pub clocks_worked : map (λ (r : ℕ × Answer ℕ). clock_minute windows r.0) clocks ≡ map (λ (r : ℕ × Answer ℕ). r.1) clocks
clocks_worked = rw (at_0, at_59, at_60, at_119, at_120)
