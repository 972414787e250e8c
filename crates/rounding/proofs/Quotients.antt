-- The whole numbers next to a fraction n / d: what each way's size is, that nothing else is that, and that it grows with the fraction. Assumes nothing.
use Rattle.std.proofs.Common.{◌≡◌, ℕ, suc, ◌+◌, ◌*◌, ◌/◌, ◌%◌, ◌<◌, ◌≤◌, Bool, true, false, cond, eqb, refl, le_refl, mul-le-mul_right, mul_assoc, suc-mul, mul_comm, add-mul, le_antisymm, pos_of_ne-zero, lt_of_mul-lt-mul_right, mul-lt-mul_of_pos_right, div-add-mod', mul_right_comm, div-mul-le_self, mul_left_comm, arith, eqb-true}
use native.Mathlib.Nat.{lt-div-mul-add}
use borrow.Author.Tests.{eqb-false}
use Rattle.rounding.specs.Integral.{Way, floors, ceils, halves, upper, near, sized}

-- k is the whole number at n / d or next below it, at it or next above it, and the nearest, of two that are as near the larger
abbrev pub Below : ℕ → ℕ → ℕ → Type 0
Below n d k = (k * d ≤ n) × (n < k * d + d)

abbrev pub Above : ℕ → ℕ → ℕ → Type 0
Above n d k = (n ≤ k * d) × (k * d < n + d)

abbrev pub Near : ℕ → ℕ → ℕ → Type 0
Near n d k = (2 * (k * d) ≤ 2 * n + d) × (2 * n < 2 * (k * d) + d)

-- the size that a way leads to, by the sign
abbrev pub Is : Way → Bool → ℕ → ℕ → ℕ → Type 0
Is floors false = Below
Is floors true = Above
Is ceils false = Above
Is ceils true = Below
Is halves s = Near

-- ---- each way's size is it
below_of : (n d : ℕ) → 0 < d → Below n d (n / d)
below_of n d p = (div-mul-le_self n d, lt-div-mul-add p)

above_of : (n d : ℕ) → 0 < d → Above n d (upper n d)
above_of n d p = go (eqb (n % d) 0) refl
  where
    go : (b : Bool) → eqb (n % d) 0 ≡ b → Above n d (cond b (n / d) (suc (n / d)))
    go true e =
        let z : n % d ≡ 0 = eqb-true (n % d) 0 e in
        let q : n / d * d + n % d ≡ n = div-add-mod' n d in
        (omega arith, omega arith)
    go false e =
        let z : 0 < n % d = pos_of_ne-zero (eqb-false (n % d) 0 e) in
        let q : n / d * d + n % d ≡ n = div-add-mod' n d in
        let u : n < n / d * d + d = lt-div-mul-add p in
        let r : suc (n / d) * d ≡ n / d * d + d = suc-mul (n / d) d in
        (omega arith, omega arith)

near_of : (n d : ℕ) → 0 < d → Near n d (near n d)
near_of n d p =
    let k = near n d in
    let a : k * (2 * d) ≤ 2 * n + d = div-mul-le_self (2 * n + d) (2 * d) in
    let b : 2 * n + d < k * (2 * d) + 2 * d = lt-div-mul-add (omega arith) in
    let c : k * (2 * d) ≡ 2 * (k * d) = mul_left_comm k 2 d in
    (omega arith, omega arith)

pub sized_of : (w : Way) (s : Bool) (n d : ℕ) → 0 < d → Is w s n d (sized w s n d)
sized_of floors false n d p = below_of n d p
sized_of floors true n d p = above_of n d p
sized_of ceils false n d p = above_of n d p
sized_of ceils true n d p = below_of n d p
sized_of halves s n d p = near_of n d p

-- ---- a larger fraction leads to a size that is no smaller
-- k < j + 1, each side times d * c
squeeze : (k j d c : ℕ) → k * d * c < j * c * d + c * d → k ≤ j
squeeze k j d c h =
    let e : j * c * d + c * d ≡ suc j * (d * c) = rw (suc-mul j (d * c), mul_right_comm j c d, mul_assoc j d c, mul_comm c d) in
    let l : k < suc j = lt_of_mul-lt-mul_right (d * c) (rw (mul_assoc k d c) at (rw e at h)) in
    omega arith

below_mono : (n d k b c j : ℕ) → 0 < d → 0 < c → Below n d k → Below b c j → n * c ≤ b * d → k ≤ j
below_mono n d k b c j pd pc h g l =
    let x : k * d * c ≤ n * c = mul-le-mul_right c h.0 in
    let y : b * d < j * c * d + c * d = rw (add-mul (j * c) c d) at (mul-lt-mul_of_pos_right g.1 pd) in
    squeeze k j d c (omega arith)

above_mono : (n d k b c j : ℕ) → 0 < d → 0 < c → Above n d k → Above b c j → n * c ≤ b * d → k ≤ j
above_mono n d k b c j pd pc h g l =
    let x : k * d * c < n * c + d * c = rw (add-mul n d c) at (mul-lt-mul_of_pos_right h.1 pc) in
    let y : b * d ≤ j * c * d = mul-le-mul_right d g.0 in
    squeeze k j d c (omega (arith, mul_comm c d))

near_mono : (n d k b c j : ℕ) → 0 < d → 0 < c → Near n d k → Near b c j → n * c ≤ b * d → k ≤ j
near_mono n d k b c j pd pc h g l =
    let x : 2 * (k * d * c) ≤ 2 * (n * c) + d * c = rw (add-mul (2 * n) d c, mul_assoc 2 n c, mul_assoc 2 (k * d) c) at (mul-le-mul_right c h.0) in
    let y : 2 * (b * d) < 2 * (j * c * d) + c * d = rw (add-mul (2 * (j * c)) c d, mul_assoc 2 (j * c) d, mul_assoc 2 b d) at (mul-lt-mul_of_pos_right g.1 pd) in
    squeeze k j d c (omega (arith, mul_comm c d))

-- n / d ≤ b / c, k next to n / d and j next to b / c by the same way
is_mono : (w : Way) (s : Bool) (n d k b c j : ℕ) → 0 < d → 0 < c → Is w s n d k → Is w s b c j → n * c ≤ b * d → k ≤ j
is_mono floors false n d k b c j pd pc h g l = below_mono n d k b c j pd pc h g l
is_mono floors true n d k b c j pd pc h g l = above_mono n d k b c j pd pc h g l
is_mono ceils false n d k b c j pd pc h g l = above_mono n d k b c j pd pc h g l
is_mono ceils true n d k b c j pd pc h g l = below_mono n d k b c j pd pc h g l
is_mono halves s n d k b c j pd pc h g l = near_mono n d k b c j pd pc h g l

pub sized_mono : (w : Way) (s : Bool) (n d b c : ℕ) → 0 < d → 0 < c → n * c ≤ b * d → sized w s n d ≤ sized w s b c
sized_mono w s n d b c pd pc l =
    is_mono w s n d (sized w s n d) b c (sized w s b c) pd pc (sized_of w s n d pd) (sized_of w s b c pc) l

-- ---- so there is one such number each
pub sized_is : (w : Way) (s : Bool) (n d k : ℕ) → 0 < d → Is w s n d k → sized w s n d ≡ k
sized_is w s n d k p h =
    let i = sized_of w s n d p in
    le_antisymm (is_mono w s n d (sized w s n d) n d k p p i h (le_refl (n * d))) (is_mono w s n d k n d (sized w s n d) p p h i (le_refl (n * d)))

-- ---- each way leads to a number less than 1 away, so a whole number stays, and a bound b on the fraction is one on the answer
abbrev pub Next : ℕ → ℕ → ℕ → Type 0
Next n d k = (n < k * d + d) × (k * d < n + d)

pub is_next : (w : Way) (s : Bool) (n d k : ℕ) → 0 < d → Is w s n d k → Next n d k
is_next floors false n d k p h = (omega arith, omega arith)
is_next floors true n d k p h = (omega arith, omega arith)
is_next ceils false n d k p h = (omega arith, omega arith)
is_next ceils true n d k p h = (omega arith, omega arith)
is_next halves s n d k p h = (omega arith, omega arith)

pub sized-next : (w : Way) (s : Bool) (n d : ℕ) → 0 < d → Next n d (sized w s n d)
sized-next w s n d p = is_next w s n d (sized w s n d) p (sized_of w s n d p)

same : (a k d : ℕ) → a * d < k * d + d → k * d < a * d + d → a ≡ k
same a k d h l =
    let x : a < suc k = lt_of_mul-lt-mul_right d (omega (arith, suc-mul k d)) in
    let y : k < suc a = lt_of_mul-lt-mul_right d (omega (arith, suc-mul a d)) in
    omega arith

pub sized-whole : (w : Way) (s : Bool) (k d : ℕ) → 0 < d → sized w s (k * d) d ≡ k
sized-whole w s k d p =
    let h = sized-next w s (k * d) d p in
    same (sized w s (k * d) d) k d h.1 h.0

pub sized_le : (w : Way) (s : Bool) (n d b : ℕ) → 0 < d → n ≤ b * d → sized w s n d ≤ b
sized_le w s n d b p h =
    let l : sized w s n d < suc b = lt_of_mul-lt-mul_right d (omega (arith, sized-next w s n d p, suc-mul b d)) in
    omega arith
