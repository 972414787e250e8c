-- H levels are enough: for every H from 0 to 10 the tolerance 1 ÷ 10 ^ H, multiplied by ten H times, has reached 1. So a larger counter changes no
-- answer, and the counter stands for nothing that 01 does not say. Assumes nothing.
use mathlib.Core.Path.{◌≡◌, refl, ap, ◌∙◌}
use mathlib.Core.Bool.{Bool, true}
use mathlib.Core.List.{List}
use Prim.Native.Nat.{ℕ, zero, suc, ◌+◌, ◌≤◌}
use native.Mathlib.Nat.{suc-add, zero-add}
use native.Mathlib.Omega.{arith}
use lib.Dec.{T}
use lib.ListN.{replicate}
use lib.Ieee.Bits.{is_true}
use lib.Ieee.{Float, binary64, of_bits, of_int, round, mul, div, lt, le, eq}
use Rattle.ranged1d.proofs.Table.{every, at}
use Rattle.float.specs.declared.Shortened.{Shortened}
use Rattle.float.specs.Shorten.{shorten, one, ten, tolerance, plain, inner}
use Rattle.float.proofs.Cases.{level}

abbrev grown : ℕ → Float → Float
grown zero eps = eps
grown (suc k) eps = grown k (mul binary64 eps ten)

test : ℕ → Bool
test h = le one (grown h (tolerance h))

-- for each number up to ten, as at the places of a table of eleven entries
places : List ℕ
places = replicate 11 0

all-ten : T (every (λ h x. test h) 0 places)
unfolding places test le lt eq mul div of_int of_bits round
all-ten = tt

reached : (h : ℕ) → h ≤ 10 → le one (grown h (tolerance h)) ≡ true
unfolding places test
reached h l = is_true (test h) (at (λ h x. test h) places all-ten h (omega arith))

once_one : (j : ℕ) (n eps : Float) → le one eps ≡ true → shorten j n eps ≡ plain n
unfolding shorten
once_one zero n eps h = refl
once_one (suc j) n eps h = rw h

longer : (k j : ℕ) (n eps : Float) → le one (grown k eps) ≡ true → shorten (k + j) n eps ≡ shorten k n eps
unfolding shorten
longer zero j n eps h = ap (λ (i : ℕ). shorten i n eps) (zero-add j) ∙ once_one j n eps h
longer (suc k) j n eps h =
    ap (λ (i : ℕ). shorten i n eps) (suc-add k j)
    ∙ ap (λ (r : Shortened). level n eps r) (longer k j (inner n) (mul binary64 eps ten) h)

pub enough : (h j : ℕ) (n : Float) → h ≤ 10 → shorten (h + j) n (tolerance h) ≡ shorten h n (tolerance h)
enough h j n l = longer h j n (tolerance h) (reached h l)
