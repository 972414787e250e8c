-- The marks of a real stepped axis, by those of its indices. Assumes nothing.
use mathlib.Core.Path.{◌≡◌, ap, subst, ◌∙◌}
use mathlib.Core.List.{List}
use Prim.Native.Nat.{ℕ, ◌*◌}
use lib.ListN.{length}
use lib.Ieee.{Float}
use Rattle.numeric.specs.Marks.{list_of}
use Rattle.linspace.specs.List.{real, stepped}
use Rattle.linspace.specs.Calls.{Spaced, marks_of, step_marks}
use Rattle.linspace.specs.RealSteps.{plus_step, after}
use Rattle.linspace.proofs.Counts.{stepped-are}
use Rattle.linspace.proofs.Marks.{marks_by}

pub marks-are : (a b d : Float) (m : ℕ) {n by count : ℕ} → n ≡ length (stepped real a b d) → Spaced n m by count → step_marks real a b d m ≡ list_of (λ k. after (plus_step d) (k * by) a) count
marks-are a b d m {n} {by} {count} all s =
    ap (λ (z : List Float). marks_of real.nil z m) (stepped-are a b d)
    ∙ marks_by real.nil (λ k. after (plus_step d) k a) (subst (λ (n : ℕ). Spaced n m by count) all s)
