-- The rules by the walk over the windows. Assumes nothing.
use mathlib.Core.Path.{◌≡◌, refl, sym, ap, ◌∙◌}
use mathlib.Core.Bool.{Bool, true, false, cond, not, ◌||◌}
use mathlib.Core.List.{List, [], ◌∷◌}
use mathlib.Core.Logic.{◌⊎◌, inl, inr}
use Prim.Native.Nat.{ℕ, ◌/◌, ◌%◌, ◌≤◌, ◌<◌}
use native.Mathlib.Nat.{zero-add}
use native.Mathlib.Omega.{arith}
use borrow.Author.Tests.{lt-ltb, le-ltb}
use lib.Dec.{ltb, eqb}
use lib.ListN.{length}
use Rattle.ranged1d.specs.Answer.{Answer, given, none, refused, ◌when◌, lowest}
use Rattle.ranged1d.proofs.Bools.{yes_or, le_or}
use Rattle.week.specs.Week.{Window, windows_of, misplaced, bad_week, runs, passing, running_of, clock_of, running_minute, clock_minute}
use Rattle.week.specs.Theorems.{lengths}
use Rattle.week.specs.Steps.{running_in, clock_in, walked, surveyed}
use Rattle.week.specs.declared.Counted.{Counted}
use Rattle.ranged1d.specs.Told.{tell_option}
use Rattle.std.specs.Prelude.{Option, Some, None}
use Rattle.week.proofs.Counts.{counted-at, counted_tells, counted_none}
use Rattle.week.proofs.Windows.{okay, halves, okay_all, walk_refused, Fine, okay_fine, total_is, before-end, finds_clock, finds_running}

-- what is no refusal becomes 27
abbrev pub or_late : Answer ℕ → Answer ℕ
or_late (given n) = refused 27
or_late none = refused 27
or_late (refused n) = refused n

-- ---- the windows are no running week, and every walk is refused; or they are one, and it goes to the end
abbrev pub NoWeek : List ℕ → Type 0
NoWeek l = (bad_week l ≡ true) × ((f : Counted → Answer ℕ) → surveyed f l ≡ refused 26)

abbrev pub AWeek : List ℕ → Type 0
AWeek l = (bad_week l ≡ false) × (okay 0 l ≡ true) × ((f : Counted → Answer ℕ) → surveyed f l ≡ walked f 0 0 none l)

pub week_or : (l : List ℕ) → NoWeek l ⊎ AWeek l
unfolding surveyed
week_or l = go (le_or (length l / 2) 32) (yes_or (eqb (length l % 2) 1 || misplaced (windows_of l)))
  where
    -- two numbers are a window each
    pairs : length (windows_of l) ≡ length l / 2
    pairs = omega (arith, halves l)

    many : 32 < length l / 2 → bad_week l ≡ true
    many h = rw (lt-ltb 32 (length (windows_of l)) (omega (arith, pairs)))

    few : length l / 2 ≤ 32 → bad_week l ≡ (eqb (length l % 2) 1 || misplaced (windows_of l))
    few h = rw (le-ltb 32 (length (windows_of l)) (omega (arith, pairs)))

    go : (length l / 2 ≤ 32) ⊎ (32 < length l / 2) → ((eqb (length l % 2) 1 || misplaced (windows_of l)) ≡ true) ⊎ ((eqb (length l % 2) 1 || misplaced (windows_of l)) ≡ false) → NoWeek l ⊎ AWeek l
    go (inr h) d = inl (many h, λ f. ap (λ (b : Bool). cond b (refused 26) (walked f 0 0 none l)) (lt-ltb 32 (length l / 2) h))
    go (inl h) (inl d) =
        inl (few h ∙ d, λ f. ap (λ (b : Bool). cond b (refused 26) (walked f 0 0 none l)) (le-ltb 32 (length l / 2) h) ∙ walk_refused f 0 0 none l (okay_all l ∙ ap not d))
    go (inl h) (inr d) =
        inr (few h ∙ d, okay_all l ∙ ap not d, λ f. ap (λ (b : Bool). cond b (refused 26) (walked f 0 0 none l)) (le-ltb 32 (length l / 2) h))

-- ---- the clock minute
pub clock_at : (w : List Window) (c r : ℕ) → c < 10080 → runs w c ≡ true → passing (runs w) c ≡ r → clock_of w r ≡ given c
unfolding clock_of
clock_at w c r h e s = counted-at (runs w) r 10080 c h e s

pub clock_tells : (w : List Window) (c r : ℕ) → clock_of w r ≡ given c → (c < 10080) × (runs w c ≡ true) × (passing (runs w) c ≡ r)
unfolding clock_of
clock_tells w c r e = counted_tells (runs w) r 10080 c e

pub clock_none : (w : List Window) (r : ℕ) → passing (runs w) 10080 ≤ r → clock_of w r ≡ none
unfolding clock_of
clock_none w r h = counted_none (runs w) r 10080 h

-- ---- of a running week
module _ (l : List ℕ) (ok : okay 0 l ≡ true) where
  fine : Fine 0 (windows_of l)
  fine = okay_fine 0 l ok

  pub walk_running : (c : ℕ) → walked (running_in c) 0 0 none l ≡ running_of (windows_of l) c
  walk_running c = go (runs (windows_of l) c) refl
    where
      go : (t : Bool) → runs (windows_of l) c ≡ t → walked (running_in c) 0 0 none l ≡ cond t (given (passing (runs (windows_of l)) c)) none
      go true e = (finds_clock c 0 0 none l ok).1 e ∙ ap (λ (n : ℕ). given n) (zero-add (passing (runs (windows_of l)) c))
      go false e = (finds_clock c 0 0 none l ok).0 e

  pub walk_clock : (r : ℕ) → walked (clock_in r) 0 0 none l ≡ clock_of (windows_of l) r
  walk_clock r = go (le_or (lengths (windows_of l)) r)
    where
      go : (lengths (windows_of l) ≤ r) ⊎ (r < lengths (windows_of l)) → walked (clock_in r) 0 0 none l ≡ clock_of (windows_of l) r
      go (inl h) = (finds_running r 0 0 none l ok).0 (inr (omega arith)) ∙ sym (clock_none (windows_of l) r (omega (arith, total_is 0 (windows_of l) fine)))
      go (inr h) =
          let s = (finds_running r 0 0 none l ok).1 (omega arith) (omega arith) in
          s.1 ∙ sym (clock_at (windows_of l) s.0 r (before-end 0 (windows_of l) fine s.0 s.2) s.2 (omega (arith, s.3)))

-- ---- what the calls answer
module _ (l : List ℕ) where
  pub running_is : (c : ℕ) → c ≤ 10079 → surveyed (running_in c) l ≡ running_minute l c
  unfolding running_minute
  running_is c h = go (week_or l)
    where
      go : NoWeek l ⊎ AWeek l
          → surveyed (running_in c) l ≡ lowest (26 when bad_week l ∷ 27 when ltb 10079 c ∷ []) (running_of (windows_of l) c)
      go (inl b) = rw b.0 (b.1 (running_in c))
      go (inr b) = rw (b.0, le-ltb 10079 c h) (b.2 (running_in c) ∙ walk_running l b.1 c)

  -- beyond the week: 26 where that applies, else 27
  pub running_late : (c : ℕ) → 10079 < c → (a : Answer ℕ) → a ≡ surveyed (running_in c) l → or_late a ≡ running_minute l c
  unfolding running_minute
  running_late c h a q = go (week_or l)
    where
      go : NoWeek l ⊎ AWeek l
          → or_late a ≡ lowest (26 when bad_week l ∷ 27 when ltb 10079 c ∷ []) (running_of (windows_of l) c)
      go (inl b) = rw b.0 (ap or_late (q ∙ b.1 (running_in c)))
      go (inr b) = rw (b.0, lt-ltb 10079 c h) (ap or_late (q ∙ b.2 (running_in c) ∙ walk_running l b.1 c) ∙ off (runs (windows_of l) c) (passing (runs (windows_of l)) c))
        where
          off : (t : Bool) (n : ℕ) → or_late (cond t (given n) none) ≡ refused 27
          off true n = refl
          off false n = refl

  pub clock_is : (r : ℕ) → surveyed (clock_in r) l ≡ clock_minute l r
  unfolding clock_minute
  clock_is r = go (week_or l)
    where
      go : NoWeek l ⊎ AWeek l
          → surveyed (clock_in r) l ≡ lowest (26 when bad_week l ∷ []) (clock_of (windows_of l) r)
      go (inl b) = rw b.0 (b.1 (clock_in r))
      go (inr b) = rw b.0 (b.2 (clock_in r) ∙ walk_clock l b.1 r)

  -- a refused walk is 26, wherever the minute lies
  pub running_refused : (c n : ℕ) → refused n ≡ surveyed (running_in c) l → refused n ≡ running_minute l c
  running_refused c n e = go (le_or c 10079)
    where
      go : (c ≤ 10079) ⊎ (10079 < c) → refused n ≡ running_minute l c
      go (inl h) = e ∙ running_is c h
      go (inr h) = running_late c h (refused n) e

  -- a walk to the end is 27 beyond the week
  pub running_27 : (c : ℕ) → 10079 < c → (found : Option ℕ) → tell_option found ≡ surveyed (running_in c) l → refused 27 ≡ running_minute l c
  running_27 c h (Some m) e = running_late c h (given m) e
  running_27 c h None e = running_late c h none e
