-- The tests that the code makes of x, and what they say of its floor, its nearest whole number and the whole number within a bound. Assumes nothing.
use Rattle.std.specs.Prelude.{Some, None}
use Rattle.std.proofs.Common.{◌≡◌, ℕ, zero, suc, ◌+◌, ◌-◌, ◌*◌, ◌/◌, ◌%◌, ◌^◌, ◌<◌, ◌≤◌, Bool, true, false, ◌&&◌, T, eqb, ltb, leb, ℤ, pos, negsuc, nat_abs, sym, refl, ap, ◌∙◌, subst, true≢false, lt_of_lt_of_le, add-zero, zero-lt-suc, mul_assoc, suc-mul, mul_comm, add-mul, lt_of_mul-lt-mul_right, mul-le-mul_left, mul-pos, one-mul, pow-suc, div-add-mod', zero-mul, mul-one, mul_left_comm, arith, lit≤, le→leb, ltb→lt, lt→ltb, pow_pos, pow_mono, shl_lt, ltb-false, eq-eqb, ne_eqb}
use Rattle.std.proofs.lemmas.Bool.{false≢true}
use native.Mathlib.Nat.{mod-one, mul-mod_left, pow-succ'}
use lib.Ieee.{Float, nan, inf, fin, Format, binary32, binary64, prec, emax, low, up, down, lt, is_nan, of_int, round, add, sum, neg, fits, to_signed, in_float, in_signed}
use lib.Ieee.Fits.{down_pos, and_l, and_r}
use lib.Ieee.Exact.{HasValue, round_exact}
use lib.Ieee.Scale.{round_same}
use lib.Ieee.Back.{round_whole, positive_back, negative_back}
use borrow.Author.Tests.{lt-leb}
use Rattle.rounding.specs.Integral.{Way, floors, halves, integral, sized, upper}
use Rattle.rounding.specs.Within.{signed, whole_of, kept, within}
use Rattle.rounding.proofs.Compare.{Says, Tells, compared, own, under}
use Rattle.rounding.proofs.Quotients.{Is, sized_of, sized-next, sized-whole, sized_le, sized_is}
use Rattle.rounding.proofs.Signs.{zero_f, neg-neg, lt_neg}
use Rattle.rounding.proofs.Sums.{whole_sum}
use Rattle.rounding.proofs.Steps.{Small, power, before, signed_abs, of_signed, not_below}

abbrev pub half : Float
half = fin false 1 (negsuc 0)

-- ---- integers of so many binary digits are floats, and come back
pub in_float_lem : (f : Format) (z : ℤ) → nat_abs z ≤ 2 ^ prec f → T (in_float f z)
unfolding in_float
in_float_lem f (pos n) h = le→leb n (2 ^ prec f) h
in_float_lem f (negsuc n) h = lt→ltb n (2 ^ prec f) h

pub cast_back : (z : ℤ) → nat_abs z ≤ 2 ^ 52 → T (in_signed binary64 63 (of_int binary64 z)) × (to_signed 63 (of_int binary64 z) ≡ z)
cast_back (pos n) h = positive_back binary64 63 n (in_float_lem binary64 (pos n) (omega arith)) (omega arith)
cast_back (negsuc n) h = negative_back binary64 63 n (in_float_lem binary64 (negsuc n) (omega arith)) (omega arith)

-- ---- a number without a fraction is its own answer
pub stays_whole : (f : Format) (w : Way) (s : Bool) (m : ℕ) (e : ℤ) → m * up e % down e ≡ 0 → integral f w (fin s m e) ≡ fin s m e
unfolding integral
stays_whole f w s m e h = rw (eq-eqb (m * up e % down e) 0 h)

pub goes : (f : Format) (w : Way) (s : Bool) (m : ℕ) (e : ℤ) → (m * up e % down e ≡ 0 → ⊥) → integral f w (fin s m e) ≡ round f s (sized w s (m * up e) (down e)) 1
unfolding integral
goes f w s m e h = rw (ne_eqb (m * up e % down e) 0 h)

-- ---- from 2 ^ (prec - 1) on there is none
pub digits : (f : Format) (s : Bool) (m : ℕ) (e : ℤ) → T (fits f (fin s (suc m) e)) → suc m < 2 ^ prec f
unfolding fits
digits f s m e t =
    let a = eqb (suc m % 2) 1 in
    let b = ltb (suc m) (2 ^ prec f) in
    let c = leb (down e) (2 ^ low f) in
    ltb→lt (suc m) (2 ^ prec f) (and_r a b (and_l (a && b) c (and_l (a && b && c) (ltb (suc m * up e) (2 ^ suc (emax f) * down e)) t)))

twice : (f : Format) → 2 ^ prec f ≡ 2 * 2 ^ (prec f - 1)
twice binary32 = refl
twice binary64 = refl

pub big_whole : (f : Format) (s : Bool) (m : ℕ) (e : ℤ) → T (fits f (fin s m e)) → 2 ^ (prec f - 1) * down e ≤ m * up e → m * up e % down e ≡ 0
big_whole f s m (pos k) t h = mod-one (m * up (pos k))
big_whole f s zero (negsuc k) t h = omega (arith, div-add-mod' 0 (2 ^ suc k))
big_whole f s (suc m) (negsuc k) t h = absurd (no (2 ^ (prec f - 1)) (2 ^ k) (pow_pos k) (rw (pow-succ' 2 k) at h) (rw (twice f) at (digits f s m (negsuc k) t)))
  where
    no : (a q : ℕ) → 0 < q → a * (2 * q) ≤ suc m * 1 → suc m < 2 * a → ⊥
    no a q b c d = let l : a * 2 ≤ a * (2 * q) = mul-le-mul_left a (omega arith) in omega arith

-- x is not finite, or C or more in size
abbrev pub AtLeast : ℕ → Float → Type 0
AtLeast C nan = Unit {0}
AtLeast C (inf s) = Unit {0}
AtLeast C (fin s m e) = C * down e ≤ m * up e

abbrev pub Large : Float → Type 0
Large x = AtLeast 4503599627370496 x

-- what is not below 2 ^ k, or not above −2 ^ k
pub least_high : (k : ℕ) (x : Float) → lt x (fin false 1 (pos k)) ≡ false → AtLeast (2 ^ k) x
unfolding lt
least_high k nan h = tt
least_high k (inf s) h = tt
least_high k (fin false m e) h = under false false m e (fin false 1 (pos k)) (2 ^ k) (power false k) h
least_high k (fin true m e) h =
    let l : m * up e * 1 + 1 * 2 ^ k * down e ≤ 0 = ltb-false 0 (m * up e * 1 + 1 * 2 ^ k * down e) h in
    let p : 0 < 1 * 2 ^ k * down e = rw (one-mul (2 ^ k)) (mul-pos (pow_pos k) (down_pos e)) in
    absurd (omega (arith, l, p))

least_neg : (C : ℕ) (x : Float) → AtLeast C (neg x) → AtLeast C x
unfolding neg
least_neg C nan h = tt
least_neg C (inf s) h = tt
least_neg C (fin true m e) h = h
least_neg C (fin false m e) h = h

pub least_low : (k : ℕ) (x : Float) → lt (fin true 1 (pos k)) x ≡ false → AtLeast (2 ^ k) x
unfolding neg
least_low k x h = least_neg (2 ^ k) x (least_high k (neg x) (sym (lt_neg (fin false 1 (pos k)) (neg x)) ∙ ap (lt (fin true 1 (pos k))) (neg-neg x) ∙ h))

pub stays_large : (w : Way) (x : Float) → fits binary64 x ≡ true → Large x → integral binary64 w x ≡ x
unfolding integral
stays_large w nan t h = refl
stays_large w (inf s) t h = refl
stays_large w (fin s m e) t h = stays_whole binary64 w s m e (big_whole binary64 s m e (subst T (sym t) tt) h)

-- ---- below 2 ^ 52: x against its floor
pub whole_small : (w : Way) (x : Float) → Small x → nat_abs (whole_of w x) ≤ 2 ^ 52
unfolding whole_of
whole_small w nan b = elim b [ ]
whole_small w (inf _) b = elim b [ ]
whole_small w (fin s m e) b =
    rw (signed_abs s (sized w s (m * up e) (down e))) (sized_le w s (m * up e) (down e) 4503599627370496 (down_pos e) (omega arith))

whole_part : (n d : ℕ) → n % d ≡ 0 → n ≡ n / d * d
whole_part n d h = omega (arith, div-add-mod' n d)

none_mod : (n d : ℕ) → 0 < d → n ≡ 0 → n % d ≡ 0
none_mod n d p h = omega (arith, div-add-mod' n d)

-- k < n / d < k + 1 leaves a rest
rest : (n d k : ℕ) → k * d < n → n < k * d + d → n % d ≡ 0 → ⊥
rest n d k l u z =
    let e : n ≡ n / d * d = whole_part n d z in
    let a : k < n / d = lt_of_mul-lt-mul_right d (omega arith) in
    let b : n / d < suc k = lt_of_mul-lt-mul_right d (omega (arith, suc-mul k d)) in
    omega arith

-- a whole number is its own answer
pub own_size : (w : Way) (s : Bool) (n d : ℕ) → 0 < d → n % d ≡ 0 → sized w s n d * d ≡ n
own_size w s n d p h =
    let e : n ≡ n / d * d = whole_part n d h in
    ap (λ (z : ℕ). sized w s z d * d) e ∙ ap (λ (z : ℕ). z * d) (sized-whole w s (n / d) d p) ∙ sym e

-- k * d against n, by how the test came out: unequal, or equal
abbrev Met : Bool → ℕ → ℕ → Type 0
Met true a b = a ≡ b → ⊥
Met false a b = a ≡ b

met : (s t : Bool) (n d k : ℕ) → Is floors s n d k → Tells s t (k * d) n → Met t (k * d) n
met false true n d k i h = λ e. omega arith
met false false n d k i h = omega arith
met true true n d k i h = λ e. omega arith
met true false n d k i h = omega arith

-- the test t < x, t being the floor
met_fin : (s t : Bool) (m : ℕ) (e : ℤ) → m * up e < 4503599627370496 * down e → lt (of_int binary64 (whole_of floors (fin s m e))) (fin s m e) ≡ t
    → Met t (sized floors s (m * up e) (down e) * down e) (m * up e)
unfolding whole_of
met_fin s t m e b h =
    let k = sized floors s (m * up e) (down e) in
    let l : k ≤ 4503599627370496 = sized_le floors s (m * up e) (down e) 4503599627370496 (down_pos e) (omega arith) in
    met s t (m * up e) (down e) k (sized_of floors s (m * up e) (down e) (down_pos e)) (before s t m e k (omega arith) h)

some : (s : Bool) (m : ℕ) (e : ℤ) → (sized floors s (m * up e) (down e) * down e ≡ m * up e → ⊥) → m * up e % down e ≡ 0 → ⊥
some s m e h z = h (own_size floors s (m * up e) (down e) (down_pos e) z)

written : (s : Bool) (m : ℕ) (e : ℤ) → (sized floors s (m * up e) (down e) * down e ≡ m * up e → ⊥)
    → round binary64 s (sized floors s (m * up e) (down e)) 1 ≡ of_int binary64 (whole_of floors (fin s m e))
unfolding whole_of of_int
written false m e h = refl
written true m e h = sym (of_signed binary64 true (upper (m * up e) (down e)) (go (upper (m * up e) (down e)) (sized_of floors true (m * up e) (down e) (down_pos e)) h))
  where
    go : (k : ℕ) → Is floors true (m * up e) (down e) k → (k * down e ≡ m * up e → ⊥) → 0 < k
    go zero i g = absurd (g (omega (arith, zero-mul (down e))))
    go (suc k) i g = zero-lt-suc k

pub floor-cut : (x : Float) → Small x → lt (of_int binary64 (whole_of floors x)) x ≡ true → integral binary64 floors x ≡ of_int binary64 (whole_of floors x)
floor-cut nan b h = elim b [ ]
floor-cut (inf _) b h = elim b [ ]
floor-cut (fin s m e) b h = let g = met_fin s true m e b h in goes binary64 floors s m e (some s m e g) ∙ written s m e g

pub stays_floor : (w : Way) (x : Float) → Small x → lt (of_int binary64 (whole_of floors x)) x ≡ false → integral binary64 w x ≡ x
stays_floor w nan b h = elim b [ ]
stays_floor w (inf _) b h = elim b [ ]
stays_floor w (fin s m e) b h =
    let k = sized floors s (m * up e) (down e) in
    stays_whole binary64 w s m e (ap (λ (z : ℕ). z % down e) (sym (met_fin s false m e b h)) ∙ mul-mod_left k (down e))

-- ---- k + 0.5
half_val : (k : ℕ) → k < 2 ^ 52 → HasValue (round binary64 false (2 * k + 1) 2) false (2 * k + 1) 2
half_val k h =
    let q : 2 * k + 1 < 2 ^ 53 = omega arith in
    round_exact binary64 false (2 * k + 1) 2 (2 * k + 1) 1073 (zero-lt-suc 1) q
    (lt_of_lt_of_le (shl_lt 53 1073 q) (pow_mono {i = 53 + 1073} {j = 1074 + 1024} (lit≤ tt)))
    (ap (λ (z : ℕ). (2 * k + 1) * z) (pow-suc 2 1073) ∙ sym (mul_assoc (2 * k + 1) (2 ^ 1073) 2))

add_half : (y : Float) (k : ℕ) → k < 2 ^ 52 → HasValue y false k 1 → HasValue (add binary64 y half) false (2 * k + 1) 2
unfolding add sum
add_half (fin true m e) k h v = absurd (true≢false v.0)
add_half nan k h v = elim v [ ]
add_half (inf _) k h v = elim v [ ]
add_half (fin false m e) k h v =
    let n : m * up e ≡ k * down e = sym (mul-one (m * up e)) ∙ v.1 in
    let p : 0 < down e * 2 = omega (arith, down_pos e) in
    let q : (2 * k + 1) * (down e * 2) ≡ 4 * (k * down e) + 2 * down e = simp (add-mul, one-mul, mul_assoc) (omega (arith, mul_left_comm k (down e) 2, mul_comm (down e) 2, mul_left_comm k 2 (down e))) in
    let r : (m * up e * 2 + 1 * down e) * 2 ≡ (2 * k + 1) * (down e * 2) = omega arith in
    subst (λ (z : Float). HasValue z false (2 * k + 1) 2) (sym (round_same binary64 false (m * up e * 2 + 1 * down e) (down e * 2) (2 * k + 1) 2 p (zero-lt-suc 1) r)) (half_val k h)

half_test : (m : ℕ) (e : ℤ) (k : ℕ) (t : Bool) → k < 2 ^ 52 → lt (fin false m e) (add binary64 (of_int binary64 (pos k)) half) ≡ t
    → Says t (m * up e * 2) ((2 * k + 1) * down e)
unfolding of_int
half_test m e k t h l =
    compared false t (fin false m e) (add binary64 (round binary64 false k 1) half) (m * up e) (down e) (2 * k + 1) 2 (down_pos e) (zero-lt-suc 1)
    (own false m e)
    (add_half (round binary64 false k 1) k h (round_whole binary64 false k (omega arith))) l

-- ---- the nearest of an x with a fraction that is not below zero
-- x is k and a fraction
abbrev Fraction : Float → Type 0
Fraction x = (m : ℕ) × (e : ℤ) × (k : ℕ) × (x ≡ fin false m e) × (whole_of floors x ≡ pos k) × (k * down e < m * up e) × (m * up e < k * down e + down e) × (k < 2 ^ 52)

fraction : (x : Float) → Small x → lt x zero_f ≡ false → lt (of_int binary64 (whole_of floors x)) x ≡ true → Fraction x
unfolding whole_of
fraction (fin true m e) b g h =
    let z : m * up e ≡ 0 = not_below m e g in
    absurd (some true m e (met_fin true true m e b h) (none_mod (m * up e) (down e) (down_pos e) z))
fraction nan b g h = elim b [ ]
fraction (inf _) b g h = elim b [ ]
fraction (fin false m e) b g h =
    let n = m * up e in
    let d = down e in
    let k = n / d in
    let i = sized_of floors false n d (down_pos e) in
    let z = met_fin false true m e b h in
    let o : k < 2 ^ 52 = lt_of_mul-lt-mul_right d (omega arith) in
    (m, e, k, refl, refl, omega arith, i.1, o)

near_by : (x : Float) (f : Fraction x) (j : ℕ) → Is halves false (f.0 * up f.1) (down f.1) j → integral binary64 halves x ≡ of_int binary64 (pos j)
unfolding of_int
near_by x f j h =
    let m = f.0 in
    let e = f.1 in
    let n = m * up e in
    let d = down e in
    ap (integral binary64 halves) f.3
    ∙ goes binary64 halves false m e (rest n d f.2 f.5 f.6)
    ∙ ap (λ (k : ℕ). round binary64 false k 1) (sized_is halves false n d j (down_pos e) h)

-- the code's test against k + 0.5
tested : (x : Float) (f : Fraction x) (t : Bool) → lt x (add binary64 (of_int binary64 (whole_of floors x)) half) ≡ t → Says t (f.0 * up f.1 * 2) (2 * (f.2 * down f.1) + down f.1)
tested x f t h =
    let m = f.0 in
    let e = f.1 in
    let k = f.2 in
    let c : (2 * k + 1) * down e ≡ 2 * (k * down e) + down e = simp (add-mul, mul_assoc, one-mul) in
    let h' : lt (fin false m e) (add binary64 (of_int binary64 (pos k)) half) ≡ t =
    ap (λ (z : ℤ). lt (fin false m e) (add binary64 (of_int binary64 z) half)) (sym f.4) ∙ ap (λ (y : Float). lt y (add binary64 (of_int binary64 (whole_of floors x)) half)) (sym f.3) ∙ h in
    subst (λ (z : ℕ). Says t (m * up e * 2) z) c (half_test m e k t f.7 h')

-- what the code adds to k: nothing below k + 0.5, and 1 from there on
abbrev pub step : Bool → ℕ
step true = 0
step false = 1

near_step : (n d k : ℕ) (t : Bool) → k * d < n → n < k * d + d → Says t (n * 2) (2 * (k * d) + d) → Is halves false n d (k + step t)
near_step n d k true l u h = let j : (k + 0) * d ≡ k * d = ap (λ (z : ℕ). z * d) (add-zero k) in (omega arith, omega arith)
near_step n d k false l u h = let j : (k + 1) * d ≡ k * d + d = add-mul k 1 d ∙ ap (λ (z : ℕ). k * d + z) (one-mul d) in (omega arith, omega arith)

step_le : (t : Bool) → step t ≤ 2 ^ 53
step_le true = lit≤ tt
step_le false = lit≤ tt

pub round_step : (x : Float) (t : Bool) → Small x → lt x zero_f ≡ false → lt (of_int binary64 (whole_of floors x)) x ≡ true
    → lt x (add binary64 (of_int binary64 (whole_of floors x)) half) ≡ t
    → integral binary64 halves x ≡ add binary64 (of_int binary64 (whole_of floors x)) (of_int binary64 (pos (step t)))
round_step x t b g l h =
    let f = fraction x b g l in
    let k = f.2 in
    near_by x f (k + step t) (near_step (f.0 * up f.1) (down f.1) k t f.5 f.6 (tested x f t h))
    ∙ sym (whole_sum binary64 (pos k) (pos (step t)) (omega (arith, f.7)) (step_le t))
    ∙ ap (λ (z : ℤ). add binary64 (of_int binary64 z) (of_int binary64 (pos (step t)))) (sym f.4)

-- ---- within a bound
pub within_small : (w : Way) (b : ℕ) (x : Float) → Small x → within w b x ≡ kept b (whole_of w x)
unfolding within
within_small w b nan h = elim h [ ]
within_small w b (inf _) h = elim h [ ]
within_small w b (fin s m e) h = refl

pub within_nan : (w : Way) (b : ℕ) (x : Float) → is_nan x ≡ true → within w b x ≡ Some (pos 0)
unfolding within is_nan
within_nan w b nan h = refl
within_nan w b (inf s) h = absurd (false≢true h)
within_nan w b (fin s m e) h = absurd (false≢true h)

-- a bound below 2 ^ 52 is passed there
past : (w : Way) (s : Bool) (n d b : ℕ) → 0 < d → b < 4503599627370496 → 4503599627370496 * d ≤ n → b < sized w s n d
past w s n d b p l h =
    let g : 4503599627370496 < suc (sized w s n d) = lt_of_mul-lt-mul_right d (omega (arith, sized-next w s n d p, suc-mul (sized w s n d) d)) in
    omega arith

pub within_large : (w : Way) (b : ℕ) (x : Float) → b < 2 ^ 32 → is_nan x ≡ false → Large x → within w b x ≡ None
unfolding within whole_of is_nan
within_large w b nan l g h = absurd (true≢false g)
within_large w b (inf s) l g h = refl
within_large w b (fin s m e) l g h =
    let k = sized w s (m * up e) (down e) in
    rw (lt-leb (nat_abs (signed s k)) b (rw (signed_abs s k) (past w s (m * up e) (down e) b (down_pos e) (omega arith) h)))
