-- Sums of real numbers in order: one with a positive number is never less, one with a negative number never more, and one that equals
-- the number that was added to stays there. Assumes nothing.
use mathlib.Core.Path.{◌≡◌, refl, sym, ap, subst, ◌∙◌}
use mathlib.Core.Logic.{◌⊎◌, inl, inr}
use mathlib.Core.Bool.{Bool, true, false, cond, true≢false, ◌&&◌, ◌||◌}
use Prim.Native.Nat.{ℕ, zero, suc, ◌+◌, ◌-◌, ◌*◌, ◌/◌, ◌%◌, ◌^◌, ◌≤◌, ◌<◌}
use native.Mathlib.Nat.{zero-mul, add-zero, sub-zero, one-mul, mul-one, mul_assoc, mul_comm, mul_right_comm, mul-pos, mul-le-mul_right, mul-lt-mul_of_pos_right, lt_of_mul-lt-mul_right}
use native.Mathlib.Omega.{arith}
use native.Mathlib.Decide.{dec_le}
use borrow.Author.Tests.{le-ltb}
use lib.Dec.{T, ltb, leb, eqb, ltb→lt, leb→le}
use lib.IntN.{ℤ, pos, negsuc}
use lib.Pow.{pow_pos, pow-add, pow-lt}
use lib.Ieee.{Float, nan, inf, fin, Format, binary64, prec, emax, low, hid, top, up, down, size, round, sum, add, neg, lt, le, eq, fits, to_bits, of_bits}
use lib.Ieee.Nearest.{div_same}
use lib.Ieee.Bits.{of_bits-to_bits}
use lib.Ieee.Exact.{HasValue, round_exact}
use lib.Ieee.Fits.{up_pos, down_pos, and_l, and_r, neg-fits, add-fits}
use lib.Ieee.Order.{round_mono, le_of_values}
use Rattle.rounding.proofs.Order.{eq_zero}
use Rattle.rounding.proofs.Signs.{neg_fin, round-neg, lt_neg}
use Rattle.rounding.proofs.Small.{Plus, plus-round}
use Rattle.real.proofs.Signs.{zero_of, Alike, neg_zero, same_through, turns_alike, add_turns}
use Rattle.search.proofs.RealOrder.{never, Level, signs, zeros, levelled, real-order}
use Rattle.search.proofs.Mirror.{lt_zero}

-- ---- numbers that fit are written in one way
abbrev bits_of : Format → Bool → ℕ → ℕ
bits_of f s n = cond s (top f) 0 + (size n - prec f) * hid f + n / 2 ^ (size n - prec f)

same_bits : (f : Format) (s : Bool) (m n : ℕ) (e d : ℤ) → m * up e * down d ≡ n * up d * down e → to_bits f (fin s m e) ≡ to_bits f (fin s n d)
unfolding to_bits
same_bits f s m n e d h =
    let l = 2 ^ low f in
    let g : m * up e * l * down d ≡ n * up d * l * down e = mul_right_comm (m * up e) l (down d) ∙ ap (λ (x : ℕ). x * l) h ∙ mul_right_comm (n * up d) (down e) l in
    ap (bits_of f s) (div_same (m * up e * l) (down e) (n * up d * l) (down d) (down_pos e) (down_pos d) g)

same-written : (f : Format) (s : Bool) (m n : ℕ) (e d : ℤ) → T (fits f (fin s m e)) → T (fits f (fin s n d)) → m * up e * down d ≡ n * up d * down e → fin s m e ≡ fin s n d
same-written f s m n e d x y h = sym (of_bits-to_bits f (fin s m e) x) ∙ ap (of_bits f) (same_bits f s m n e d h) ∙ of_bits-to_bits f (fin s n d) y

zero_fits : (s : Bool) → T (fits binary64 (zero_of s))
unfolding fits
zero_fits s = tt

zero_written : (s : Bool) (m : ℕ) (e : ℤ) → m ≡ 0 → T (fits binary64 (fin s m e)) → fin s m e ≡ zero_of s
zero_written s m e z x =
    same-written binary64 s m 0 e (pos 0) x (zero_fits s) (ap (λ (k : ℕ). k * up e * 1) z ∙ simp zero-mul)

-- equal numbers that fit are the same, or zeros
pub eq_written : (x y : Float) → T (fits binary64 x) → T (fits binary64 y) → eq x y ≡ true → Alike x y
unfolding eq
eq_written nan y f g h = never h
eq_written (inf s) nan f g h = never h
eq_written (inf true) (inf true) f g h = inl refl
eq_written (inf true) (inf false) f g h = never h
eq_written (inf false) (inf true) f g h = never h
eq_written (inf false) (inf false) f g h = inl refl
eq_written (inf s) (fin t n d) f g h = never h
eq_written (fin s m e) nan f g h = never h
eq_written (fin s m e) (inf t) f g h = never h
eq_written (fin s m e) (fin t n d) f g h = go (levelled s t (m * up e * down d) (n * up d * down e) h)
  where
    go : Level s t (m * up e * down d) (n * up d * down e) → Alike (fin s m e) (fin t n d)
    go (signs e' q) = inl (subst (λ (u : Bool). T (fits binary64 (fin u n d)) → fin s m e ≡ fin u n d) e' (λ g. same-written binary64 s m n e d f g q) g)
    go (zeros x y) =
        inr ((s, zero_written s m e (eq_zero m (up e) (up_pos e) (eq_zero (m * up e) (down d) (down_pos d) x)) f), (t, zero_written t n d (eq_zero n (up d) (up_pos d) (eq_zero (n * up d) (down e) (down_pos e) y)) g))

-- ---- a number that fits is its own rounding
shift : (l : ℕ) (e : ℤ) → down e ≤ 2 ^ l → (j : ℕ) × (up e * 2 ^ l ≡ 2 ^ j * down e)
shift l (pos k) h = (k + l, sym (pow-add 2 k l) ∙ sym (mul-one (2 ^ (k + l))))
shift l (negsuc k) h = go (dec_le (suc k) l)
  where
    go : Dec (suc k ≤ l) → (j : ℕ) × (1 * 2 ^ l ≡ 2 ^ j * 2 ^ suc k)
    go (yes g) =
        let e : l ≡ l - suc k + suc k = omega (arith, g) in
        (l - suc k, one-mul (2 ^ l) ∙ ap (λ (n : ℕ). 2 ^ n) e ∙ pow-add 2 (l - suc k) (suc k))
    go (no g) = let m : 2 ^ l < 2 ^ suc k = pow-lt (omega (arith, g)) in absurd (omega (arith, m, h))

own_value : (f : Format) (s : Bool) (m : ℕ) (e : ℤ) → T (fits f (fin s m e)) → HasValue (round f s (m * up e) (down e)) s (m * up e) (down e)
unfolding fits
own_value f s zero e h =
    round_exact f s (0 * up e) (down e) 0 0 (down_pos e) (pow_pos (prec f)) (pow_pos (low f + suc (emax f)))
    (rw (zero-mul (up e), zero-mul (2 ^ low f), zero-mul (down e)) refl)
own_value f s (suc m) e h =
    let A = eqb (suc m % 2) 1 in
    let B = ltb (suc m) (2 ^ prec f) in
    let C = leb (down e) (2 ^ low f) in
    let D = ltb (suc m * up e) (2 ^ suc (emax f) * down e) in
    let small : suc m < 2 ^ prec f = ltb→lt (suc m) (2 ^ prec f) (and_r A B (and_l (A && B) C (and_l (A && B && C) D h))) in
    let fine : down e ≤ 2 ^ low f = leb→le (down e) (2 ^ low f) (and_r (A && B) C (and_l (A && B && C) D h)) in
    let under : suc m * up e < 2 ^ suc (emax f) * down e = ltb→lt (suc m * up e) (2 ^ suc (emax f) * down e) (and_r (A && B && C) D h) in
    let j = shift (low f) e fine in
    let same : suc m * up e * 2 ^ low f ≡ suc m * 2 ^ j.0 * down e =
    mul_assoc (suc m) (up e) (2 ^ low f) ∙ ap (λ (x : ℕ). suc m * x) j.1 ∙ sym (mul_assoc (suc m) (2 ^ j.0) (down e)) in
    let wide : suc m * up e * 2 ^ low f < 2 ^ suc (emax f) * down e * 2 ^ low f = mul-lt-mul_of_pos_right under (pow_pos (low f)) in
    let top : 2 ^ suc (emax f) * down e * 2 ^ low f ≡ 2 ^ (low f + suc (emax f)) * down e =
    mul_right_comm (2 ^ suc (emax f)) (down e) (2 ^ low f) ∙ ap (λ (x : ℕ). x * down e) (mul_comm (2 ^ suc (emax f)) (2 ^ low f) ∙ sym (pow-add 2 (low f) (suc (emax f)))) in
    let less : suc m * 2 ^ j.0 * down e < 2 ^ (low f + suc (emax f)) * down e = subst (λ (x : ℕ). x < 2 ^ (low f + suc (emax f)) * down e) same (subst (λ (x : ℕ). suc m * up e * 2 ^ low f < x) top wide) in
    round_exact f s (suc m * up e) (down e) (suc m) j.0 (down_pos e) small (lt_of_mul-lt-mul_right (down e) less) same

-- −0.0 added to a number gives that number
unchanged : (s : Bool) (m : ℕ) (e : ℤ) (r : Float) → T (fits binary64 (fin s m e)) → T (fits binary64 r) → HasValue r s (m * up e) (down e) → r ≡ fin s m e
unchanged s m e nan f g v = absurd v
unchanged s m e (inf t) f g v = absurd v
unchanged s m e (fin t n d) f g v = subst (λ (u : Bool). T (fits binary64 (fin u n d)) → fin u n d ≡ fin s m e) (sym v.0) (λ g. same-written binary64 s n m d e g f v.1) g

sum-nought : (s : Bool) (q c : ℕ) → sum binary64 s q true 0 c ≡ round binary64 s q c
unfolding sum
sum-nought true q c = rw (add-zero q) refl
sum-nought false q c = rw (le-ltb q 0 (omega arith), sub-zero q) refl

pub add-nought : (x : Float) → T (fits binary64 x) → add binary64 x (zero_of true) ≡ x
unfolding add
add-nought nan f = refl
add-nought (inf s) f = refl
add-nought (fin s m e) f =
    let is : sum binary64 s (m * up e * 1) true (0 * 1 * down e) (down e * 1) ≡ round binary64 s (m * up e) (down e) =
    rw (mul-one (m * up e), mul-one (down e), zero-mul (down e)) (sum-nought s (m * up e) (down e)) in
    unchanged s m e (add binary64 (fin s m e) (zero_of true)) f (add-fits binary64 (fin s m e) (zero_of true)) (subst (λ (r : Float). HasValue r s (m * up e) (down e)) (sym is) (own_value binary64 s m e f))

-- ---- the order of sums
le_cases : (x y : Float) → T (le x y) → (lt x y ≡ true) ⊎ (eq x y ≡ true)
unfolding le
le_cases x y h = go (lt x y) refl (eq x y) refl h
  where
    go : (p : Bool) → lt x y ≡ p → (q : Bool) → eq x y ≡ q → T (p || q) → (lt x y ≡ true) ⊎ (eq x y ≡ true)
    go true e q g t = inl e
    go false e true g t = inr g
    go false e false g t = absurd t

-- what is at most y is not above it, and what lies below the one lies below the other
not_above : (x y : Float) → T (le x y) → lt y x ≡ true → ⊥
not_above x y h k = go (le_cases x y h)
  where
    go : (lt x y ≡ true) ⊎ (eq x y ≡ true) → ⊥
    go (inl e) = true≢false (sym k ∙ real-order.asym x y e)
    go (inr e) = true≢false (sym e ∙ real-order.even x y ∙ real-order.apart y x k)

below_on : (x y z : Float) → lt z x ≡ true → T (le x y) → lt z y ≡ true
below_on x y z k h = go (le_cases x y h)
  where
    go : (lt x y ≡ true) ⊎ (eq x y ≡ true) → lt z y ≡ true
    go (inl e) = real-order.trans z x y k e
    go (inr e) = real-order.lead z x y k e

not_less : (x y z : Float) → T (le x y) → T (le y z) → lt z x ≡ false
not_less x y z h k = go (lt z x) refl
  where
    go : (p : Bool) → lt z x ≡ p → p ≡ false
    go true e = absurd (not_above y z k (below_on x y z e h))
    go false e = refl

-- a rounded fraction is not below a negative number
not_below : (q c m : ℕ) (e : ℤ) → lt (round binary64 false q c) (fin true m e) ≡ false
unfolding lt
not_below q c m e = go (round binary64 false q c) (plus-round binary64 q c)
  where
    go : (r : Float) → Plus r → lt r (fin true m e) ≡ false
    go nan p = absurd p
    go (inf s) p = p
    go (fin s n d) p = rw p refl

-- of a / c and (a + b) / c, for a number m · 2^e that fits and is a / c
module _ (m : ℕ) (e : ℤ) (own : T (fits binary64 (fin false m e))) (g b : ℕ) (G : 0 < g) where
  abbrev a : ℕ
  a = m * up e * g

  abbrev c : ℕ
  c = down e * g

  C : 0 < c
  C = mul-pos (down_pos e) G

  cross : m * up e * c ≡ a * down e
  cross = sym (mul_assoc (m * up e) (down e) g) ∙ mul_right_comm (m * up e) (down e) g

  abbrev x : Float
  x = fin false m e

  abbrev r : Float
  r = round binary64 false (m * up e) (down e)

  up_to : T (le x r)
  up_to = le_of_values x r (m * up e) (down e) (m * up e) (down e) (down_pos e) (down_pos e) (refl, refl) (own_value binary64 false m e own) (omega arith)

  from_it : T (le r x)
  from_it = le_of_values r x (m * up e) (down e) (m * up e) (down e) (down_pos e) (down_pos e) (own_value binary64 false m e own) (refl, refl) (omega arith)

  more : lt (round binary64 false (a + b) c) x ≡ false
  more =
      let h : a * down e ≤ (a + b) * down e = mul-le-mul_right (down e) (omega arith) in
      not_less x r (round binary64 false (a + b) c) up_to (round_mono binary64 (m * up e) (down e) (a + b) c (down_pos e) C (omega (arith, h, cross)))

  less : lt x (round binary64 false (a - b) c) ≡ false
  less =
      let h : (a - b) * down e ≤ a * down e = mul-le-mul_right (down e) (omega arith) in
      not_less (round binary64 false (a - b) c) r x (round_mono binary64 (a - b) c (m * up e) (down e) C (down_pos e) (omega (arith, h, cross))) from_it

sign_off : (m : ℕ) (e : ℤ) → T (fits binary64 (fin true m e)) → T (fits binary64 (fin false m e))
unfolding neg
sign_off m e h = neg-fits binary64 (fin true m e) h

sum_back : (s : Bool) (m : ℕ) (e : ℤ) → T (fits binary64 (fin s m e)) → (g b : ℕ) → 0 < g → lt (sum binary64 s (m * up e * g) false b (down e * g)) (fin s m e) ≡ false
unfolding sum
sum_back false m e f g b G = more m e f g b G
sum_back true m e f g b G = go (ltb (m * up e * g) b) (ltb b (m * up e * g))
  where
    go : (t u : Bool) → lt (cond t (round binary64 false (b - m * up e * g) (down e * g)) (round binary64 u (m * up e * g - b) (down e * g))) (fin true m e) ≡ false
    go true u = not_below (b - m * up e * g) (down e * g) m e
    go false false = not_below (m * up e * g - b) (down e * g) m e
    go false true =
        ap (λ (z : Float). lt z (fin true m e)) (round-neg binary64 false (m * up e * g - b) (down e * g))
        ∙ ap (lt (neg (round binary64 false (m * up e * g - b) (down e * g)))) (neg_fin false m e)
        ∙ lt_neg (round binary64 false (m * up e * g - b) (down e * g)) (fin false m e)
        ∙ less m e (sign_off m e f) g b G

-- a sum with a positive number is never less
pub never_back : (x d : Float) → T (fits binary64 x) → lt (zero_of false) d ≡ true → lt (add binary64 x d) x ≡ false
unfolding add lt
never_back nan d f h = refl
never_back (inf s) nan f h = refl
never_back (inf true) (inf true) f h = refl
never_back (inf true) (inf false) f h = refl
never_back (inf false) (inf true) f h = refl
never_back (inf false) (inf false) f h = refl
never_back (inf true) (fin t n d) f h = refl
never_back (inf false) (fin t n d) f h = refl
never_back (fin s m e) nan f h = refl
never_back (fin s m e) (inf true) f h = never h
never_back (fin s m e) (inf false) f h = refl
never_back (fin s m e) (fin true n d) f h = never h
never_back (fin s m e) (fin false n d) f h = sum_back s m e f (down d) (n * up d * down e) (down_pos d)

-- ---- downward, by the mirror
-- a sum with a negative number is never more
pub never_on : (x d : Float) → T (fits binary64 x) → lt d (zero_of false) ≡ true → lt x (add binary64 x d) ≡ false
never_on x d f h =
    sym (lt_neg (add binary64 x d) x)
    ∙ sym (same_through (λ (z : Float). lt z (neg x)) (lt_zero (neg x)) (turns_alike (add_turns x d)))
    ∙ never_back (neg x) (neg d) (neg-fits binary64 x f) (lt_zero (neg d) false true ∙ ap (λ (z : Float). lt z (neg d)) (sym (neg_zero false)) ∙ lt_neg (zero_of false) d ∙ h)
