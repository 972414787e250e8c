-- 01 "Marks on a whole axis": the choice of the step, and the marks; 02 (a): the marks that stay on the axis. An end is a whole number, a ℤ;
-- a step, a count and the mark limit m are naturals. Assumes nothing.
use Rattle.std.specs.Prelude.{ℕ, zero, suc, ◌+◌, ◌-◌, ◌*◌, ◌/◌, ◌%◌, ◌^◌, Bool, cond, List, [], ◌∷◌, ◌++◌, leb, ltb, eqb, ℤ, pos, negsuc, neg_ℤ, nat_abs, ◌+ℤ◌, ◌-ℤ◌, ◌*ℤ◌}
use Rattle.std.specs.Int.Signed.{quot_z}
use Rattle.ranged1d.specs.Numbers.{raised}
pub use Rattle.ranged1d.specs.Numbers.{low, high}
use Rattle.numeric.specs.declared.Choice.{Choice}
use Rattle.numeric.specs.declared.Choice.TheVariants.{Cut, Inside}

-- ---- the ends, `low` and `high`: how far they are apart
abbrev pub distance : ℤ → ℤ → ℕ
distance lo hi = nat_abs (hi -ℤ lo)

-- ---- the steps: 1, 2 or 5 times a power of ten. Step k goes by k % 3 and k / 3: step 0 is 1, step 27 is 1,000,000,000.
abbrev pub leading : ℕ → ℕ
leading zero = 1
leading (suc zero) = 2
leading (suc (suc n)) = 5

unfoldable pub step_at : ℕ → ℕ
step_at k = leading (k % 3) * 10 ^ (k / 3)

abbrev pub power_of_ten : ℕ → Bool
power_of_ten k = eqb (k % 3) 0

-- d ÷ s, rounded up
abbrev pub ceil_div : ℕ → ℕ → ℕ
ceil_div d s = (d + (s - 1)) / s

-- step k serves a distance d where d ÷ s, rounded up, is at most m if s is a power of ten, and below m otherwise
abbrev pub serves : ℕ → ℕ → ℕ → Bool
serves d m k = cond (power_of_ten k) (leb (ceil_div d (step_at k)) m) (ltb (ceil_div d (step_at k)) m)

-- the first of k, k + 1, .., k + n - 1 that passes the test; k + n where none does
unfoldable pub first_of : (ℕ → Bool) → ℕ → ℕ → ℕ
first_of p k zero = k
first_of p k (suc n) = cond (p k) k (first_of p (suc k) n)

-- chosen is the first of the 28 steps that serves; 28 stands for none
unfoldable pub chosen : ℕ → ℕ → ℕ
chosen d m = first_of (serves d m) 0 28

-- ---- the marks, as multiples of s: which multiple is the first that is not below lo, and which is hi cut toward zero
abbrev pub first_index : ℤ → ℕ → ℤ
first_index (pos n) s = pos (ceil_div n s)
first_index (negsuc n) s = neg_ℤ (pos (suc n / s))

abbrev pub last_index : ℤ → ℕ → ℤ
last_index z s = quot_z z (pos s)

-- how many whole numbers there are from i to j
abbrev pub how_many : ℤ → ℤ → ℕ
how_many i j = raised (j +ℤ pos 1 -ℤ i)

-- f 0, f 1, .., f (n - 1)
abbrev pub list_of : {A : Type 0} → (ℕ → A) → ℕ → List A
list_of f zero = []
list_of f (suc n) = list_of f n ++ (f n ∷ [])

-- the multiples i · s, (i + 1) · s, .., j · s
abbrev pub multiple : ℤ → ℕ → ℕ → ℤ
multiple i s k = (i +ℤ pos k) *ℤ pos s

abbrev pub multiples : ℤ → ℤ → ℕ → List ℤ
multiples i j s = list_of (multiple i s) (how_many i j)

-- ---- the axis from lo to hi
unfoldable pub no_step_for : ℤ → ℤ → ℕ → Bool
no_step_for lo hi m = leb 28 (chosen (distance lo hi) m)

unfoldable pub step_for : ℤ → ℤ → ℕ → ℕ
step_for lo hi m = step_at (chosen (distance lo hi) m)

unfoldable pub marks_for : ℤ → ℤ → ℕ → List ℤ
marks_for lo hi m = multiples (first_index lo (step_for lo hi m)) (last_index hi (step_for lo hi m)) (step_for lo hi m)

-- ---- the axis with the ends a and b, in either order: whether no step serves, the step, the marks
abbrev pub no_step : ℤ → ℤ → ℕ → Bool
no_step a b m = no_step_for (low a b) (high a b) m

abbrev pub step_of : ℤ → ℤ → ℕ → ℕ
step_of a b m = step_for (low a b) (high a b) m

abbrev pub marks : ℤ → ℤ → ℕ → List ℤ
marks a b m = marks_for (low a b) (high a b) m

-- ---- 02 (a): marks that stay on the axis. The last is the greatest multiple of s that is not above hi: the negation of the least
-- that is not below −hi. Step and first mark are as before.
abbrev pub last_inside : ℤ → ℕ → ℤ
last_inside hi s = neg_ℤ (first_index (neg_ℤ hi) s)

unfoldable pub inside_for : ℤ → ℤ → ℕ → List ℤ
inside_for lo hi m = multiples (first_index lo (step_for lo hi m)) (last_inside hi (step_for lo hi m)) (step_for lo hi m)

-- ---- the marks by the choice of the last: hi cut toward zero, as plotters has it, or the last on the axis
abbrev pub last_by : Choice → ℤ → ℕ → ℤ
last_by Cut hi s = last_index hi s
last_by Inside hi s = last_inside hi s

abbrev pub marks_by : Choice → ℤ → ℤ → ℕ → List ℤ
marks_by Cut a b m = marks a b m
marks_by Inside a b m = inside_for (low a b) (high a b) m
