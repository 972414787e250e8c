-- Whole numbers as differences of naturals, z being `over z` less `under z`, so that sums, differences and order are linear and `omega`
-- reads them. Assumes nothing.
use mathlib.Core.Path.{◌≡◌, refl, sym, ap}
use mathlib.Core.Bool.{true, true≢false}
use Prim.Native.Nat.{ℕ, zero, suc, ◌+◌, ◌*◌, ◌≤◌, ◌<◌}
use native.Mathlib.Omega.{arith}
use lib.IntN.{ℤ, pos, negsuc, neg_ℤ, nat_abs, sub_ℕ, ◌+ℤ◌, ◌-ℤ◌, ◌*ℤ◌}
use lib.Signed.{le_z}
use borrow.Author.Tests.{leb-true, le-leb}
use Rattle.ranged1d.proofs.Whole.{sub_cases}

abbrev pub over : ℤ → ℕ
over (pos n) = n
over (negsuc n) = 0

abbrev pub under : ℤ → ℕ
under (pos n) = 0
under (negsuc n) = suc n

-- z is u - v
abbrev pub Parts : ℤ → ℕ → ℕ → Type 0
Parts z u v = over z + v ≡ under z + u

pub abs_parts : (z : ℤ) → nat_abs z ≡ over z + under z
abs_parts (pos n) = omega arith
abs_parts (negsuc n) = omega arith

sub_parts : (a b : ℕ) → Parts (sub_ℕ a b) a b
sub_parts a b = sub_cases a b (λ z. Parts z a b) (λ l. omega arith) (λ l. omega arith)

pub sum-parts : (x y : ℤ) → Parts (x +ℤ y) (over x + over y) (under x + under y)
sum-parts (pos a) (pos b) = omega arith
sum-parts (pos a) (negsuc b) = omega (arith, sub_parts a (suc b))
sum-parts (negsuc a) (pos b) = omega (arith, sub_parts b (suc a))
sum-parts (negsuc a) (negsuc b) = omega arith

pub neg-parts : (z : ℤ) → (over (neg_ℤ z) ≡ under z) × (under (neg_ℤ z) ≡ over z)
neg-parts (pos zero) = (refl, refl)
neg-parts (pos (suc n)) = (refl, refl)
neg-parts (negsuc n) = (refl, refl)

pub diff_parts : (x y : ℤ) → Parts (x -ℤ y) (over x + under y) (under x + over y)
diff_parts x y = omega (arith, sum-parts x (neg_ℤ y), neg-parts y)

pub times_parts : (v : ℤ) (d : ℕ) → (over (v *ℤ pos d) ≡ over v * d) × (under (v *ℤ pos d) ≡ under v * d)
times_parts (pos a) d = (refl, omega arith)
times_parts (negsuc a) d = let k = neg-parts (pos (suc a * d)) in (omega (arith, k.0), k.1)

pub le_parts : (x y : ℤ) → le_z x y ≡ true → over x + under y ≤ over y + under x
le_parts (pos a) (pos b) h = omega (arith, leb-true a b h)
le_parts (pos a) (negsuc b) h = absurd (true≢false (sym h))
le_parts (negsuc a) (pos b) h = omega arith
le_parts (negsuc a) (negsuc b) h = omega (arith, leb-true b a h)

pub parts_le : (x y : ℤ) → over x + under y ≤ over y + under x → le_z x y ≡ true
parts_le (pos a) (pos b) h = le-leb a b (omega arith)
parts_le (pos a) (negsuc b) h = absurd (omega arith)
parts_le (negsuc a) (pos b) h = refl
parts_le (negsuc a) (negsuc b) h = le-leb b a (omega arith)

-- a difference of naturals, n times, is less than e either way
pub abs_close : (z : ℤ) (p q n e : ℕ) → Parts z p q → n * p < n * q + e → n * q < n * p + e → nat_abs z * n < e
abs_close (pos a) p q n e k l m = omega (arith, ap (λ (x : ℕ). n * x) k)
abs_close (negsuc a) p q n e k l m = omega (arith, ap (λ (x : ℕ). n * x) k)
