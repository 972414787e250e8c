-- A real stepped axis: which way its list runs, and what each call answers, return by return. Assumes nothing.
use mathlib.Core.Path.{◌≡◌, refl, sym, ap, ◌∙◌}
use mathlib.Core.Bool.{Bool, true, false, true≢false}
use mathlib.Core.List.{List, [], ◌∷◌}
use Prim.Native.Nat.{ℕ, ◌+◌, ◌-◌, ◌≤◌, ◌<◌}
use native.Mathlib.Omega.{arith}
use borrow.Author.Tests.{lt-ltb, le-ltb}
use lib.ListN.{length}
use lib.Ieee.{Float, lt}
use Rattle.ranged1d.specs.Answer.{Answer, given, refused}
use Rattle.search.proofs.RealOrder.{real-order}
use Rattle.linspace.specs.List.{real, entries, toward, stepped, against}
use Rattle.linspace.specs.Calls.{has_entries, step_size}
use Rattle.linspace.specs.RealSteps.{plus_step, Walked}
use Rattle.linspace.proofs.Rules.{counts_against, counts_long, counts_all}
use Rattle.linspace.proofs.Ways.{stepped-run}
use Rattle.linspace.proofs.Walks.{entries-few}

module _ (a b d : Float) where
  -- ---- the list: where it has no entry, and how long it is
  pub stepped-empty : has_entries (stepped real a b d) ≡ false → stepped real a b d ≡ []
  stepped-empty s = go (stepped real a b d) s
    where
      go : (l : List Float) → has_entries l ≡ false → l ≡ []
      go [] e = refl
      go (x ∷ xs) e = absurd (true≢false (sym (lt-ltb 0 (length (x ∷ xs)) (omega arith)) ∙ e))

  pub stepped-total : has_entries (stepped real a b d) ≡ true → length (stepped real a b d) ≡ length (entries (toward real (lt a b) b) (plus_step d) 65537 a)
  stepped-total s = ap length (stepped-run real real-order a b d s)

  pub stepped-few : length (stepped real a b d) ≤ 65537
  stepped-few = go (has_entries (stepped real a b d)) refl
    where
      go : (t : Bool) → has_entries (stepped real a b d) ≡ t → length (stepped real a b d) ≤ 65537
      go true s = rw (stepped-run real real-order a b d s) (entries-few (toward real (lt a b) b) (plus_step d) 65537 a)
      go false s = rw (stepped-empty s) (omega arith)

  -- a walk's count is the list's
  pub walked-count : (n : ℕ) (x : Float) → has_entries (stepped real a b d) ≡ true → Walked (toward real (lt a b) b) (plus_step d) 65537 a n x
      → n + length (entries (toward real (lt a b) b) (plus_step d) (65537 - n) x) ≡ length (stepped real a b d)
  walked-count n x s w = sym (stepped-total s ∙ w.rest)

  -- ---- `size`
  pub size-empty : against real a b d ≡ false → has_entries (stepped real a b d) ≡ false → given 0 ≡ step_size real a b d
  unfolding step_size
  size-empty e s = rw (e, stepped-empty s) refl

  pub size-against : against real a b d ≡ true → ◌≡◌ {A = Answer ℕ} (refused 6) (step_size real a b d)
  unfolding step_size
  size-against e = counts_against real a b d e

  pub size_long : against real a b d ≡ false → 65536 < length (stepped real a b d) → ◌≡◌ {A = Answer ℕ} (refused 7) (step_size real a b d)
  unfolding step_size
  size_long e h = counts_long real a b d e (lt-ltb 65536 (length (stepped real a b d)) h)

  pub size_is : against real a b d ≡ false → length (stepped real a b d) ≤ 65536 → given (length (stepped real a b d)) ≡ step_size real a b d
  unfolding step_size
  size_is e h = counts_all real a b d e (le-ltb 65536 (length (stepped real a b d)) h)
