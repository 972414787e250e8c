-- What 02 (l) says of the two calls together: `Undone` of specs/Theorems. Assumes nothing.
use mathlib.Core.Path.{◌≡◌, refl, sym, ◌∙◌}
use mathlib.Core.Bool.{Bool, true, false, cond, true≢false}
use mathlib.Core.List.{List, [], ◌∷◌}
use mathlib.Core.Logic.{◌⊎◌, inl, inr}
use Prim.Native.Nat.{ℕ, ◌≤◌, ◌<◌}
use native.Mathlib.Omega.{arith}
use borrow.Author.Tests.{le-ltb, ltb-false}
use lib.Dec.{ltb}
use Rattle.ranged1d.specs.Answer.{given, none, ◌when◌}
use Rattle.ranged1d.proofs.Answers.{choice, not_none}
use Rattle.ranged1d.proofs.Bools.{le_or}
use Rattle.ranged1d.proofs.Lowest.{given_tests}
use Rattle.week.specs.Week.{windows_of, bad_week, runs, passing, running_of, clock_of, running_minute, clock_minute}
use Rattle.week.specs.Theorems.{total, lengths, Undone}
use Rattle.week.proofs.Counts.{many_less, many_reach}
use Rattle.week.proofs.Windows.{okay_fine, total_is}
use Rattle.week.proofs.Rules.{NoWeek, AWeek, week_or, clock_at, clock_tells, clock_none}

module _ (l : List ℕ) where
  there : (c r : ℕ) → running_minute l c ≡ given r → clock_minute l r ≡ given c
  unfolding running_minute clock_minute
  there c r e =
      let t = given_tests (26 when bad_week l ∷ 27 when ltb 10079 c ∷ []) (running_of (windows_of l) c) e in
      let w = choice (runs (windows_of l) c) (passing (runs (windows_of l)) c) r t.1 in
      let h : c < 10080 = omega (arith, ltb-false 10079 c t.0.1.0) in
      rw t.0.0 (clock_at (windows_of l) c r h w.0 w.1)

  back : (c r : ℕ) → clock_minute l r ≡ given c → running_minute l c ≡ given r
  unfolding running_minute clock_minute
  back c r e =
      let t = given_tests (26 when bad_week l ∷ []) (clock_of (windows_of l) r) e in
      let w = clock_tells (windows_of l) c r t.1 in
      let h : c ≤ 10079 = omega (arith, w.0) in
      rw (t.0.0, le-ltb 10079 c h, w.1, w.2) refl

  -- what is given of a clock minute: it lies in a window, and so many window minutes before it
  running_tells : (c r : ℕ) → running_minute l c ≡ given r → (runs (windows_of l) c ≡ true) × (passing (runs (windows_of l)) c ≡ r)
  unfolding running_minute
  running_tells c r e =
      choice (runs (windows_of l) c) (passing (runs (windows_of l)) c) r (given_tests (26 when bad_week l ∷ 27 when ltb 10079 c ∷ []) (running_of (windows_of l) c) e).1

  rises : (c c' r r' : ℕ) → running_minute l c ≡ given r → running_minute l c' ≡ given r' → c < c' → r < r'
  rises c c' r r' e e' h =
      let s = running_tells c r e in
      omega (arith, s.1, (running_tells c' r' e').1, many_less (runs (windows_of l)) c c' h s.0)

  every_minute : bad_week l ≡ false → (r : ℕ) → r < total (windows_of l) → (c : ℕ) × (clock_minute l r ≡ given c)
  unfolding clock_minute
  every_minute b r h =
      let s = many_reach (runs (windows_of l)) 10080 r h in
      (s.0, rw b (clock_at (windows_of l) s.0 r s.1 s.2 s.3))

  outside : bad_week l ≡ false → (c : ℕ) → c ≤ 10079 → (running_minute l c ≡ none → runs (windows_of l) c ≡ false) × (runs (windows_of l) c ≡ false → running_minute l c ≡ none)
  unfolding running_minute
  outside b c h = (λ e. go (runs (windows_of l) c) (rw (b, le-ltb 10079 c h) at e), λ e. rw (b, le-ltb 10079 c h, e) refl)
    where
      go : (t : Bool) → cond t (given (passing (runs (windows_of l)) c)) none ≡ none → t ≡ false
      go true e = absurd (not_none (sym e))
      go false e = refl

  beyond : bad_week l ≡ false → (r : ℕ) → (clock_minute l r ≡ none → total (windows_of l) ≤ r) × (total (windows_of l) ≤ r → clock_minute l r ≡ none)
  unfolding clock_minute
  beyond b r = (λ e. go (rw b at e) (le_or (total (windows_of l)) r), λ h. rw b (clock_none (windows_of l) r h))
    where
      go : clock_of (windows_of l) r ≡ none → (total (windows_of l) ≤ r) ⊎ (r < total (windows_of l)) → total (windows_of l) ≤ r
      go e (inl h) = h
      go e (inr h) = let s = many_reach (runs (windows_of l)) 10080 r h in absurd (not_none (sym e ∙ clock_at (windows_of l) s.0 r s.1 s.2 s.3))

  sum : bad_week l ≡ false → total (windows_of l) ≡ lengths (windows_of l)
  sum b = go (week_or l)
    where
      go : NoWeek l ⊎ AWeek l → total (windows_of l) ≡ lengths (windows_of l)
      go (inl w) = absurd (true≢false (sym w.0 ∙ b))
      go (inr w) = total_is 0 (windows_of l) (okay_fine 0 l w.1)

pub undone : (l : List ℕ) → Undone l
undone l = record {
  there_and_back = there l;
  back_and_there = back l;
  rises = rises l;
  none_outside = outside l;
  none_beyond = beyond l;
  every_minute = every_minute l;
  sum_of_lengths = sum l;
}
