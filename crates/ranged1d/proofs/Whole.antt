-- Whole numbers: how far from 0 a sum, a difference, a product or a quotient lies, what fits an i32 or an i64, and what a test of
-- order says. Assumes nothing.
use mathlib.Core.Path.{◌≡◌, refl, sym, ap, ap₂, ◌∙◌, subst}
use mathlib.Core.Bool.{Bool, true, false, cond, not, ◌&&◌, ◌||◌, and-true}
use Prim.Native.Nat.{ℕ, zero, suc, ◌+◌, ◌-◌, ◌*◌, ◌/◌, ◌^◌, ◌≤◌, ◌<◌}
use native.Mathlib.Nat.{le_refl, div-le_self, zero-mul, zero-div}
use native.Mathlib.Omega.{arith}
use lib.Dec.{T, ltb, leb, lit<, leb-zero, leb-suc-zero, leb-suc-suc}
use lib.IntN.{ℤ, pos, negsuc, neg_ℤ, nat_abs, sub_ℕ, ◌+ℤ◌, ◌-ℤ◌, ◌*ℤ◌, +ℤ_comm, +ℤ_assoc, +ℤ_idl, +ℤ-neg_ℤ_cancel, -ℤ-+ℤ_cancel, neg_ℤ-+ℤ, neg_ℤ-neg_ℤ}
use lib.Ieee.Bits.{is_true}
use lib.Signed.{le_z, lt_z, ◌≤ℤ◌, ◌<ℤ◌, quot_z, non_neg, nat_abs-le, pos-nat_abs}
use borrow.Author.Tests.{ltb-true, ltb-false, lt-ltb, le-ltb, leb-true, leb-false, le-leb, lt-leb}
use mir.Facts.{to_z-of_z, sfits_widen}
use mir.Syntax.{Width, w32, w64}
use mir.Val.{SFits, hbits, to_z, of_z}
use Rattle.ranged1d.specs.Admitted.{whole_admitted, limit_admitted}
use Rattle.ranged1d.specs.declared.Limit.{Limit}
use Rattle.ranged1d.specs.Numbers.{low, high, raised, same}
use Rattle.ranged1d.proofs.Bools.{both_true}

-- a − b is below 0 or not
pub sub_cases : (a b : ℕ) (P : ℤ → Type 0) → (a < b → P (negsuc (b - suc a))) → (b ≤ a → P (pos (a - b))) → P (sub_ℕ a b)
sub_cases a b P f g = go (ltb a b) refl
  where
    go : (t : Bool) → ltb a b ≡ t → P (cond t (negsuc (b - suc a)) (pos (a - b)))
    go true e = f (ltb-true a b e)
    go false e = g (ltb-false a b e)

-- ---- distance from 0
pub sub-far : (a b : ℕ) → nat_abs (sub_ℕ a b) ≤ a + b
sub-far a b = sub_cases a b (λ z. nat_abs z ≤ a + b) (λ h. omega arith) (λ h. omega arith)

pub add-far : (x y : ℤ) → nat_abs (x +ℤ y) ≤ nat_abs x + nat_abs y
add-far (pos a) (pos b) = omega arith
add-far (pos a) (negsuc b) = sub-far a (suc b)
add-far (negsuc a) (pos b) = omega (arith, sub-far b (suc a))
add-far (negsuc a) (negsuc b) = omega arith

pub neg-far : (x : ℤ) → nat_abs (neg_ℤ x) ≡ nat_abs x
neg-far (pos zero) = refl
neg-far (pos (suc n)) = refl
neg-far (negsuc n) = refl

pub minus-far : (x y : ℤ) → nat_abs (x -ℤ y) ≤ nat_abs x + nat_abs y
minus-far x y = omega (arith, add-far x (neg_ℤ y), neg-far y)

pub neg-minus : (x y : ℤ) → neg_ℤ (x -ℤ y) ≡ y -ℤ x
neg-minus x y = neg_ℤ-+ℤ x (neg_ℤ y) ∙ ap (λ (z : ℤ). neg_ℤ x +ℤ z) (neg_ℤ-neg_ℤ y) ∙ +ℤ_comm (neg_ℤ x) y

pub turned-far : (x y : ℤ) → nat_abs (x -ℤ y) ≡ nat_abs (y -ℤ x)
turned-far x y = sym (neg-far (x -ℤ y)) ∙ ap nat_abs (neg-minus x y)

-- 0 − z
pub zero_minus_far : (z : ℤ) → nat_abs (pos 0 -ℤ z) ≡ nat_abs z
zero_minus_far z = ap nat_abs (+ℤ_idl (neg_ℤ z)) ∙ neg-far z

pub quotient-size : (x y : ℤ) → nat_abs (quot_z x y) ≡ nat_abs x / nat_abs y
quotient-size (pos a) (pos b) = refl
quotient-size (pos a) (negsuc b) = neg-far (pos (a / suc b))
quotient-size (negsuc a) (pos b) = neg-far (pos (suc a / b))
quotient-size (negsuc a) (negsuc b) = refl

pub quotient-far : (x y : ℤ) → nat_abs (quot_z x y) ≤ nat_abs x
quotient-far x y = rw (quotient-size x y) (div-le_self (nat_abs x) (nat_abs y))

pub times_far : (z : ℤ) (s : ℕ) → nat_abs (z *ℤ pos s) ≡ nat_abs z * s
times_far (pos a) s = refl
times_far (negsuc a) s = neg-far (pos (suc a * s))

pub pos_times_far : (i : ℕ) (z : ℤ) → nat_abs (pos i *ℤ z) ≡ i * nat_abs z
pos_times_far i (pos a) = refl
pos_times_far i (negsuc a) = neg-far (pos (i * suc a))

-- two numbers, each tested
pub both_near : (k : ℕ) (x y : ℤ) → (leb (nat_abs x) k && leb (nat_abs y) k) ≡ true → (nat_abs x ≤ k) × (nat_abs y ≤ k)
both_near k x y h = let w = both_true (leb (nat_abs x) k) (leb (nat_abs y) k) h in (leb-true (nat_abs x) k w.0, leb-true (nat_abs y) k w.1)

-- the distance of admitted limits
pub length-near : (limit : Limit) → limit_admitted limit ≡ true → nat_abs (limit.1 -ℤ limit.0) ≤ 2_000_000
length-near limit h = let near = both_near 1_000_000 limit.0 limit.1 h in omega (arith, minus-far limit.1 limit.0, near.0, near.1)

-- the distance of two numbers that are not below 0
pub sub-size : (a b : ℕ) → nat_abs (pos a -ℤ pos b) ≡ a - b + (b - a)
sub-size a zero = omega arith
sub-size a (suc b) = sub_cases a (suc b) (λ z. nat_abs z ≡ a - suc b + (suc b - a)) (λ l. omega arith) (λ l. omega arith)

-- only 0 has no size, and only equal numbers no difference
pub some_size : (z : ℤ) → (z ≡ pos 0 → ⊥) → 0 < nat_abs z
some_size (pos zero) n = absurd (n refl)
some_size (pos (suc k)) n = omega arith
some_size (negsuc k) n = omega arith

pub no_difference : (a b : ℤ) → b -ℤ a ≡ pos 0 → a ≡ b
no_difference a b e = sym (sym (-ℤ-+ℤ_cancel b a) ∙ ap (λ (z : ℤ). z +ℤ a) e ∙ +ℤ_idl a)

-- ---- what is small in size fits
pub fits_abs : (w : Width) (z : ℤ) (k : ℕ) → nat_abs z ≤ k → k < 2 ^ hbits w → SFits w z
fits_abs w (pos n) k h j = record { sfits = omega arith }
fits_abs w (negsuc n) k h j = record { sfits = omega arith }

pub fits32 : (z : ℤ) → nat_abs z ≤ 2147483647 → SFits w32 z
fits32 z h = fits_abs w32 z 2147483647 h (lit< tt)

pub fits64 : (z : ℤ) → nat_abs z ≤ 9223372036854775807 → SFits w64 z
fits64 z h = fits_abs w64 z 9223372036854775807 h (lit< tt)

pub far32 : (z : ℤ) → SFits w32 z → nat_abs z ≤ 2147483648
far32 z f = nat_abs-le z f.sfits

-- an i32 that is read as an i64
pub widens : (z : ℤ) → SFits w32 z → SFits w64 (to_z w32 (of_z w32 z))
widens z f = rw (to_z-of_z f) (sfits_widen tt f)

pub wide : (z : ℤ) → SFits w32 z → to_z w64 (of_z w64 (to_z w32 (of_z w32 z))) ≡ z
wide z f = to_z-of_z (widens z f) ∙ to_z-of_z f

-- ---- order
pub not_lt : (x y : ℤ) → lt_z x y ≡ false → le_z y x ≡ true
not_lt (pos a) (pos b) h = le-leb b a (ltb-false a b h)
not_lt (pos a) (negsuc b) h = refl
not_lt (negsuc a) (pos b) h = absurd (subst T h tt)
not_lt (negsuc a) (negsuc b) h = le-leb a b (ltb-false b a h)

pub lt_not : (x y : ℤ) → lt_z x y ≡ true → le_z y x ≡ false
lt_not (pos a) (pos b) h = lt-leb b a (ltb-true a b h)
lt_not (pos a) (negsuc b) h = absurd (subst T (sym h) tt)
lt_not (negsuc a) (pos b) h = refl
lt_not (negsuc a) (negsuc b) h = lt-leb a b (ltb-true b a h)

pub lt_le : (x y : ℤ) → lt_z x y ≡ not (le_z y x)
lt_le x y = go (lt_z x y) refl
  where
    go : (b : Bool) → lt_z x y ≡ b → b ≡ not (le_z y x)
    go true h = rw (lt_not x y h)
    go false h = rw (not_lt x y h)

-- hi − lo is not negative
pub ordered : (lo hi : ℤ) → le_z lo hi ≡ true → T (non_neg (hi -ℤ lo))
ordered (pos zero) (pos b) h = tt
ordered (pos (suc a)) (pos b) h = sub_cases b (suc a) (λ z. T (non_neg z)) (λ l. omega (arith, leb-true (suc a) b h)) (λ l. tt)
ordered (pos zero) (negsuc b) h = absurd (subst T (sym h) tt)
ordered (pos (suc a)) (negsuc b) h = absurd (subst T (sym h) tt)
ordered (negsuc a) (pos b) h = tt
ordered (negsuc a) (negsuc b) h = sub_cases (suc a) (suc b) (λ z. T (non_neg z)) (λ l. omega (arith, leb-true b a h)) (λ l. tt)

pub not_negative : (z : ℤ) → lt_z z (pos 0) ≡ false → T (non_neg z)
not_negative (pos n) h = tt
not_negative (negsuc n) h = subst T h tt

-- ---- a number that is raised to zero
pub raised-far : (z : ℤ) → raised z ≤ nat_abs z
raised-far (pos n) = omega arith
raised-far (negsuc n) = omega arith

-- of two numbers one is not above the other
pub other_way : (x y : ℤ) → le_z x y ≡ false → le_z y x ≡ true
other_way (pos a) (pos b) h = le-leb b a (omega (arith, leb-false a b h))
other_way (pos a) (negsuc b) h = refl
other_way (negsuc a) (pos b) h = absurd (subst T h tt)
other_way (negsuc a) (negsuc b) h = le-leb a b (omega (arith, leb-false b a h))

pub less_not_above : (x y : ℤ) → lt_z x y ≡ true → le_z x y ≡ true
less_not_above x y p = other_way y x (lt_not x y p)

pub both_ways : (x y : ℤ) → le_z x y ≡ true → le_z y x ≡ true → x ≡ y
both_ways (pos a) (pos b) h k = ap pos (omega (arith, leb-true a b h, leb-true b a k))
both_ways (pos a) (negsuc b) h k = absurd (subst T (sym h) tt)
both_ways (negsuc a) (pos b) h k = absurd (subst T (sym k) tt)
both_ways (negsuc a) (negsuc b) h k = ap negsuc (omega (arith, leb-true b a h, leb-true a b k))

-- ---- order, as a test and as a fact
pub yes_le : {x y : ℤ} → le_z x y ≡ true → x ≤ℤ y
yes_le e = record { le = subst T (sym e) tt }

pub yes_lt : {x y : ℤ} → lt_z x y ≡ true → x <ℤ y
yes_lt e = record { lt = subst T (sym e) tt }

pub le_yes : {x y : ℤ} → x ≤ℤ y → le_z x y ≡ true
le_yes h = is_true _ h.le

pub lt_yes : {x y : ℤ} → x <ℤ y → lt_z x y ≡ true
lt_yes h = is_true _ h.lt

-- ---- so far after a number
pub start_to : (a v : ℤ) → a +ℤ (v -ℤ a) ≡ v
start_to a v = +ℤ_comm a (v -ℤ a) ∙ -ℤ-+ℤ_cancel v a

pub from_start : (a v : ℤ) → le_z a v ≡ true → a +ℤ pos (nat_abs (v -ℤ a)) ≡ v
from_start a v h = ap (λ (z : ℤ). a +ℤ z) (pos-nat_abs (v -ℤ a) (ordered a v h)) ∙ start_to a v

pub back_to_start : (a x : ℤ) → (a +ℤ x) -ℤ a ≡ x
back_to_start a x = ap (λ (z : ℤ). z -ℤ a) (+ℤ_comm a x) ∙ +ℤ-neg_ℤ_cancel x a

pub not_before : (a : ℤ) (k : ℕ) → lt_z (a +ℤ pos k) a ≡ false
not_before (pos m) k = le-ltb (m + k) m (omega arith)
not_before (negsuc m) k = sub_cases k (suc m) (λ z. lt_z z (negsuc m) ≡ false) (λ l. le-ltb m (suc m - suc k) (omega arith)) (λ l. refl)

-- a number between two others is as near 0 as they are
pub between-far : (k : ℕ) (lo x hi : ℤ) → le_z lo x ≡ true → le_z x hi ≡ true → nat_abs lo ≤ k → nat_abs hi ≤ k → nat_abs x ≤ k
between-far k lo (pos n) (pos m) g h a b = omega (arith, leb-true n m h)
between-far k lo (pos n) (negsuc m) g h a b = absurd (subst T (sym h) tt)
between-far k (negsuc m) (negsuc n) hi g h a b = omega (arith, leb-true n m g)
between-far k (pos m) (negsuc n) hi g h a b = absurd (subst T (sym g) tt)

pub near_on : (k : ℕ) (a : ℤ) (i n : ℕ) → i ≤ n → nat_abs a ≤ k → nat_abs (a +ℤ pos n) ≤ k → nat_abs (a +ℤ pos i) ≤ k
near_on k a i n l =
    let rest : (a +ℤ pos i) +ℤ pos (n - i) ≡ a +ℤ pos n = +ℤ_assoc a (pos i) (pos (n - i)) ∙ ap (λ (m : ℕ). a +ℤ pos m) (omega (arith, l)) in
    between-far k a (a +ℤ pos i) (a +ℤ pos n) (not_lt (a +ℤ pos i) a (not_before a i))
    (subst (λ (z : ℤ). le_z (a +ℤ pos i) z ≡ true) rest (not_lt ((a +ℤ pos i) +ℤ pos (n - i)) (a +ℤ pos i) (not_before (a +ℤ pos i) (n - i))))

-- ---- `same`
le_self : (x : ℤ) → le_z x x ≡ true
le_self (pos n) = le-leb n n (le_refl n)
le_self (negsuc n) = le-leb n n (le_refl n)

pub same_yes : (p q : ℤ) → p ≡ q → same p q ≡ true
same_yes p q e = rw (e, le_self q)

pub same_no : (p q : ℤ) → (p ≡ q → ⊥) → same p q ≡ false
same_no p q n = go (le_z p q) (le_z q p) refl refl
  where
    go : (a b : Bool) → le_z p q ≡ a → le_z q p ≡ b → (a && b) ≡ false
    go true true h k = absurd (n (both_ways p q h k))
    go true false h k = refl
    go false b h k = refl

pub same_is : (p q : ℤ) → same p q ≡ true → p ≡ q
same_is p q e = let w = both_true (le_z p q) (le_z q p) e in both_ways p q w.0 w.1

-- not above is below or the same
pub less_or_same : (x y : ℤ) → le_z x y ≡ (lt_z x y || same x y)
less_or_same x y = go (lt_z x y) refl
  where
    go : (b : Bool) → lt_z x y ≡ b → le_z x y ≡ (b || same x y)
    go true h = less_not_above x y h
    go false h = rw (not_lt x y h) (sym (and-true (le_z x y)))

-- ---- negation
pub neg_le : (x y : ℤ) → le_z (neg_ℤ x) (neg_ℤ y) ≡ le_z y x
neg_le (pos zero) (pos zero) = refl
neg_le (pos zero) (pos (suc b)) = sym (leb-suc-zero b)
neg_le (pos zero) (negsuc b) = leb-zero (suc b)
neg_le (pos (suc a)) (pos zero) = sym (leb-zero (suc a))
neg_le (pos (suc a)) (pos (suc b)) = sym (leb-suc-suc b a)
neg_le (pos (suc a)) (negsuc b) = refl
neg_le (negsuc a) (pos zero) = leb-suc-zero a
neg_le (negsuc a) (pos (suc b)) = refl
neg_le (negsuc a) (negsuc b) = leb-suc-suc a b

pub neg_lt : (x y : ℤ) → lt_z (neg_ℤ x) (neg_ℤ y) ≡ lt_z y x
neg_lt x y = lt_le (neg_ℤ x) (neg_ℤ y) ∙ ap not (neg_le y x) ∙ sym (lt_le y x)

-- −x against −y and y
pub neg-order : (x y : ℕ) → y ≤ x → le_z (neg_ℤ (pos x)) (neg_ℤ (pos y)) ≡ true
neg-order x y h = neg_le (pos x) (pos y) ∙ le-leb y x h

pub neg_below : (x y : ℕ) → y < x → lt_z (neg_ℤ (pos x)) (neg_ℤ (pos y)) ≡ true
neg_below x y h = neg_lt (pos x) (pos y) ∙ lt-ltb y x h

pub below_all : (x y : ℕ) → le_z (neg_ℤ (pos x)) (pos y) ≡ true
below_all zero y = le-leb 0 y (omega arith)
below_all (suc x) y = refl

-- what is within a bound stays so
pub within-neg : (k : ℕ) (z : ℤ) → leb (nat_abs (neg_ℤ z)) k ≡ leb (nat_abs z) k
within-neg k z = ap (λ (n : ℕ). leb n k) (neg-far z)

pub admitted-neg : (z : ℤ) → whole_admitted (neg_ℤ z) ≡ whole_admitted z
admitted-neg z = within-neg 1_000_000_000 z

pub minus_shift : (a x y : ℤ) → (a +ℤ x) -ℤ (a +ℤ y) ≡ x -ℤ y
minus_shift a x y =
    ap (λ (z : ℤ). a +ℤ x +ℤ z) (neg_ℤ-+ℤ a y)
    ∙ ap (λ (z : ℤ). z +ℤ (neg_ℤ a +ℤ neg_ℤ y)) (+ℤ_comm a x)
    ∙ sym (+ℤ_assoc (x +ℤ a) (neg_ℤ a) (neg_ℤ y))
    ∙ ap (λ (z : ℤ). z +ℤ neg_ℤ y) (+ℤ-neg_ℤ_cancel x a)

pub neg_times : (x : ℤ) (s : ℕ) → neg_ℤ x *ℤ pos s ≡ neg_ℤ (x *ℤ pos s)
neg_times (pos zero) s = ap pos (zero-mul s) ∙ sym (ap (λ (n : ℕ). neg_ℤ (pos n)) (zero-mul s))
neg_times (pos (suc a)) s = refl
neg_times (negsuc a) s = sym (neg_ℤ-neg_ℤ (pos (suc a * s)))

pub quot_neg : (x : ℤ) (s : ℕ) → quot_z (neg_ℤ x) (pos s) ≡ neg_ℤ (quot_z x (pos s))
quot_neg (pos zero) s = ap pos (zero-div s) ∙ sym (ap (λ (n : ℕ). neg_ℤ (pos n)) (zero-div s))
quot_neg (pos (suc a)) s = refl
quot_neg (negsuc a) s = sym (neg_ℤ-neg_ℤ (pos (suc a / s)))

-- ---- the smaller and the larger of two
-- by the two tests of them
by_ends : (a b : ℤ) (P : Bool → Bool → Type 0) → (a ≡ b → P true true) → P true false → P false true → P (le_z a b) (le_z b a)
by_ends a b P f g h = go (le_z a b) (le_z b a) refl refl
  where
    go : (t u : Bool) → le_z a b ≡ t → le_z b a ≡ u → P t u
    go true true p q = f (both_ways a b p q)
    go true false p q = g
    go false true p q = h
    go false false p q = absurd (subst T (sym (other_way a b p) ∙ q) tt)

pub low-neg : (a b : ℤ) → low (neg_ℤ a) (neg_ℤ b) ≡ neg_ℤ (high a b)
low-neg a b =
    ap (λ (t : Bool). cond t (neg_ℤ a) (neg_ℤ b)) (neg_le a b)
    ∙ by_ends a b (λ t u. cond u (neg_ℤ a) (neg_ℤ b) ≡ neg_ℤ (cond t b a)) (λ e. ap neg_ℤ e) refl refl

pub high-neg : (a b : ℤ) → high (neg_ℤ a) (neg_ℤ b) ≡ neg_ℤ (low a b)
high-neg a b =
    sym (neg_ℤ-neg_ℤ (high (neg_ℤ a) (neg_ℤ b))) ∙ ap neg_ℤ (sym (low-neg (neg_ℤ a) (neg_ℤ b)) ∙ ap₂ low (neg_ℤ-neg_ℤ a) (neg_ℤ-neg_ℤ b))

pub low-high : (a b : ℤ) → le_z (low a b) (high a b) ≡ true
low-high a b = go (le_z a b) refl
  where
    go : (t : Bool) → le_z a b ≡ t → le_z (cond t a b) (cond t b a) ≡ true
    go true e = e
    go false e = other_way a b e
