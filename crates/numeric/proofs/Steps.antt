-- The table of steps: one test, which antt computes at each of its 28 entries, says that entry k is step k and that the steps rise.
-- From the order, each step lies between the first, 1, and the last, 1,000,000,000. Assumes nothing.
use mathlib.Core.Path.{◌≡◌}
use mathlib.Core.Bool.{Bool, ◌&&◌}
use mathlib.Core.List.{List, [], ◌∷◌}
use Prim.Native.Nat.{ℕ, zero, suc, ◌+◌, ◌-◌, ◌≤◌, ◌<◌}
use native.Mathlib.Nat.{add-suc, add-zero, zero-add}
use native.Mathlib.Omega.{arith}
use lib.Dec.{T, eqb, ltb, eqb→eq, ltb→lt}
use lib.ListN.{get_or}
use mir.Facts.{and_yes}
use Rattle.ranged1d.proofs.Table.{at}
use Rattle.numeric.specs.Marks.{step_at}

abbrev pub steps : List ℕ
steps = 1 ∷ 2 ∷ 5 ∷ 10 ∷ 20 ∷ 50 ∷ 100 ∷ 200 ∷ 500 ∷ 1000 ∷ 2000 ∷ 5000 ∷ 10000 ∷ 20000 ∷ 50000 ∷ 100000 ∷ 200000 ∷ 500000 ∷ 1000000 ∷ 2000000 ∷ 5000000 ∷ 10000000 ∷ 20000000 ∷ 50000000 ∷ 100000000 ∷ 200000000 ∷ 500000000 ∷ 1000000000 ∷ []

right : ℕ → ℕ → Bool
right k x = eqb x (step_at k) && ltb (step_at k) (step_at (suc k))

passed : (k : ℕ) → k < 28 → T (eqb (get_or steps k 0) (step_at k) && ltb (step_at k) (step_at (suc k)))
unfolding right step_at
passed k h = at right steps tt k h

pub entry : (k : ℕ) → k < 28 → get_or steps k 0 ≡ step_at k
entry k h = eqb→eq (get_or steps k 0) (step_at k) (and_yes (eqb (get_or steps k 0) (step_at k)) (ltb (step_at k) (step_at (suc k))) (passed k h)).0

pub step_rises : (k : ℕ) → k < 28 → step_at k < step_at (suc k)
step_rises k h = ltb→lt (step_at k) (step_at (suc k)) (and_yes (eqb (get_or steps k 0) (step_at k)) (ltb (step_at k) (step_at (suc k))) (passed k h)).1

-- a later step is larger
pub step_order : (j n : ℕ) → j + n < 28 → step_at j ≤ step_at (j + n)
step_order j zero h = rw add-zero (omega arith)
step_order j (suc n) h = rw add-suc (omega (arith, step_order j n (omega arith), step_rises (j + n) (omega arith)))

pub step_pos : (k : ℕ) → k < 28 → 0 < step_at k
unfolding step_at
step_pos k h = rw zero-add at (step_order 0 k (omega arith))

pub step_top : (k : ℕ) → k < 28 → step_at k ≤ 1000000000
unfolding step_at
step_top k h = let e : k + (27 - k) ≡ 27 = omega arith in rw e at (step_order k (27 - k) (omega arith))
