-- The whole number of a NaN t is 0, and no other t makes a NaN of the sum whose floor or ceiling is taken. Assumes nothing.
use Rattle.std.specs.Prelude.{Some}
use mathlib.Core.Path.{◌≡◌, refl, ap}
use mathlib.Core.Bool.{Bool, true, false, cond, ◌&&◌, beq}
use Prim.Native.Nat.{ℕ, ◌+◌, ◌-◌, ◌*◌, ◌^◌, ◌≤◌}
use lib.Dec.{ltb}
use lib.IntN.{ℤ, pos, nat_abs}
use lib.Ieee.{Float, nan, inf, fin, binary64, up, down, unlike, round, neg, sum, add, sub, mul, of_int, of_bits, is_nan}
use lib.Ieee.Exact.{HasValue}
use Rattle.ranged1d.proofs.Bools.{chosen}
use Rattle.rounding.specs.Integral.{Way, floors, ceils}
use Rattle.rounding.specs.Within.{within}
use Rattle.rounding.proofs.Small.{rounded}
use Rattle.real.specs.Place.{farthest, milli, product, rising, falling}
use Rattle.real.proofs.Cases.{steps}
use Rattle.real.proofs.Signs.{int_value}

-- ---- a NaN t
times_nan : (x : Float) → mul binary64 x nan ≡ nan
unfolding mul
times_nan nan = refl
times_nan (inf s) = refl
times_nan (fin s m e) = refl

steps_nan : (w : Way) (d : Float) (l : ℤ) → steps w farthest d l nan ≡ Some (pos 0)
unfolding within add
steps_nan w d l = ap (λ (y : Float). within w farthest (add binary64 y d)) (times_nan (of_int binary64 l))

pub rising_nan : (l : ℤ) → rising l nan ≡ Some (pos 0)
unfolding rising
rising_nan = steps_nan floors milli

pub falling_nan : (l : ℤ) → falling l nan ≡ Some (pos 0)
unfolding falling sub
falling_nan = steps_nan ceils (neg milli)

-- ---- a finite t
round_number : (s : Bool) (n d : ℕ) → is_nan (round binary64 s n d) ≡ false
unfolding is_nan
round_number s = rounded (λ (x : Float). is_nan x ≡ false) binary64 s (λ m e. refl) refl

sum_number : (s : Bool) (a : ℕ) (t : Bool) (b c : ℕ) → is_nan (sum binary64 s a t b c) ≡ false
unfolding sum
sum_number s a t b c =
    chosen (λ (x : Float). is_nan x ≡ false) (beq s t) (round_number s (a + b) c)
    (chosen (λ (x : Float). is_nan x ≡ false) (ltb a b) (round_number t (b - a) c) (round_number (s && ltb b a) (a - b) c))

-- with a finite number added
plus-number : (x : Float) (t : Bool) (n : ℕ) (d : ℤ) → is_nan x ≡ false → is_nan (add binary64 x (fin t n d)) ≡ false
unfolding add is_nan
plus-number nan t n d h = h
plus-number (inf s) t n d h = refl
plus-number (fin s m e) t n d h = sum_number s (m * up e * down d) t (n * up d * down e) (down e * down d)

times_number : (x : Float) (s : Bool) (k : ℕ) (t : Bool) (n : ℕ) (d : ℤ) → HasValue x s k 1 → is_nan (mul binary64 x (fin t n d)) ≡ false
unfolding mul
times_number nan s k t n d v = elim v [ ]
times_number (inf _) s k t n d v = elim v [ ]
times_number (fin u m e) s k t n d v = round_number (unlike u t) (m * up e * (n * up d)) (down e * down d)

product-number : (l : ℤ) → nat_abs l ≤ 2 ^ 53 → (t : Bool) (n : ℕ) (d : ℤ) → is_nan (product l (fin t n d)) ≡ false
product-number l h t n d = let x = int_value binary64 l h in times_number (of_int binary64 l) x.0 (nat_abs l) t n d x.1

-- a thousandth more where c is true, and less where it is not
pub sum_is_number : (c : Bool) (l : ℤ) → nat_abs l ≤ 2 ^ 53 → (t : Bool) (n : ℕ) (d : ℤ) → is_nan (add binary64 (product l (fin t n d)) (cond c milli (neg milli))) ≡ false
unfolding neg of_bits
sum_is_number true l h t n d = plus-number (product l (fin t n d)) _ _ _ (product-number l h t n d)
sum_is_number false l h t n d = plus-number (product l (fin t n d)) _ _ _ (product-number l h t n d)
