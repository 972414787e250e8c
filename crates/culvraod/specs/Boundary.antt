-- How a call's answer crosses the C interface. Assumes nothing.
use Rattle.std.specs.Prelude.{List, ℤ, pos, negsuc}
use Rattle.ranged1d.specs.Answer.{Answer, given, none, refused}

-- what is returned: 0 where the call answered, a refusal's number, −1 for none
abbrev pub code : {A : Type 0} → Answer A → ℤ
code (given a) = pos 0
code none = negsuc 0
code (refused n) = pos n

-- what lies behind an out pointer afterwards: the part f of an answer; without an answer it is left as it was
abbrev pub out_after : {A B : Type 0} → (A → B) → Answer A → B → B
out_after f (given a) old = f a
out_after f none old = old
out_after f (refused n) old = old

-- a call whose answer is one number, with one out pointer
abbrev pub single : {A : Type 0} → Answer A → A → ℤ × A
single x old = (code x, out_after (λ a. a) x old)

-- a call whose answer is two numbers, each with its own out pointer
abbrev pub double : {A B : Type 0} → Answer (A × B) → A → B → ℤ × A × B
double x old old' = (code x, out_after (λ a. a.0) x old, out_after (λ a. a.1) x old')

-- a call that has no answer but what the lent memory holds: the code, and that memory
abbrev pub held_c : {A B : Type 0} → Answer A × List B → ℤ × List B
held_c x = (code x.0, x.1)
