-- The C calls on numeric's axes: what each returns, and what lies behind its pointers afterwards, in their order. Assumes nothing.
use Rattle.std.specs.Prelude.{ℕ, List, ℤ}
use Rattle.ranged1d.specs.Answer.{Answer}
use Rattle.culvraod.specs.Boundary.{code, out_after}

-- a call that writes a list and gives a step and a count: the code, the list, the step, the count
abbrev pub key_points_c : {A : Type 0} → Answer (A × ℕ) × List A → A → ℕ → ℤ × List A × A × ℕ
key_points_c done step count = (code done.0, done.1, out_after (λ x. x.0) done.0 step, out_after (λ x. x.1) done.0 count)
