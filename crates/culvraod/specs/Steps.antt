-- How a written list crosses the C interface. Assumes nothing.
use Rattle.std.specs.Prelude.{ℕ, List, ℤ}
use Rattle.ranged1d.specs.Answer.{Answer}
use Rattle.culvraod.specs.Boundary.{code, out_after}

-- a call that writes a list and tells how long it is: what is returned, the lent list, and what lies behind the pointer
abbrev pub list_c : {A : Type 0} → Answer ℕ × List A → ℕ → ℤ × List A × ℕ
list_c x old = (code x.0, x.1, out_after (λ n. n) x.0 old)
