-- Floats counted as a difference: x is (u - v) / c for natural numbers u and v, so that what is said of it is linear and the sign of a zero
-- says nothing. Sums, products and quotients in this form, over any format, in units of its smallest value. Assumes nothing.
use Rattle.std.proofs.Common.{◌≡◌, ℕ, suc, ◌+◌, ◌-◌, ◌*◌, ◌/◌, ◌^◌, ◌<◌, ◌≤◌, Bool, true, false, cond, not, ltb, ◌⊎◌, ℤ, pos, negsuc, ◌-ℤ◌, nat_abs, sym, refl, ap, ◌∙◌, subst, inl, inr, zero-le, mul-le-mul_right, zero-lt-suc, lt_of_mul-lt-mul_right, mul-lt-mul_of_pos_right, one-mul, zero-mul, mul-one, div-mul-le_self, le_of_mul-le-mul_right, arith, pow_pos, ltb-false, ltb-true}
use native.Mathlib.Nat.{eq_of_mul-eq-mul_right, mul-sub, lt-div-mul-add}
use lib.Ieee.{Float, nan, inf, fin, Format, prec, emax, low, up, down, unlike, round, neg, sum, add, sub, mul, div, of_int}
use lib.Ieee.Fits.{down_pos}
use lib.Ieee.Exact.{HasValue}
use lib.Ieee.Back.{round_whole}
use lib.Ieee.Scale.{grid, round_same}
use Rattle.ranged1d.proofs.Whole.{both_ways}
use Rattle.ranged1d.proofs.Parts.{over, under, diff_parts, parts_le}
use Rattle.rounding.specs.Integral.{Way, floors, ceils}
use Rattle.rounding.specs.Within.{signed, whole_of, kept, within}
use Rattle.rounding.proofs.Errors.{Near, Off, round-near}
use Rattle.rounding.proofs.Values.{mul-value, div-round, add-value, neg_value, rescale}

-- ±a is u - v
abbrev pub Signed : Bool → ℕ → ℕ → ℕ → Type 0
Signed false a u v = a + v ≡ u
Signed true a u v = a + u ≡ v

-- x is (u - v) / c
abbrev pub Valued : Float → ℕ → ℕ → ℕ → Type 0
Valued nan u v c = ⊥
Valued (inf s) u v c = ⊥
Valued (fin s m e) u v c = Signed s (m * up e * c) (u * down e) (v * down e)

signed_times : (s : Bool) (a u v d : ℕ) → Signed s a u v → Signed s (a * d) (u * d) (v * d)
signed_times false a u v d g = omega (arith, ap (λ (z : ℕ). z * d) g)
signed_times true a u v d g = omega (arith, ap (λ (z : ℕ). z * d) g)

pub valued_of : (x : Float) (s : Bool) (a c u v : ℕ) → HasValue x s a c → Signed s a u v → Valued x u v c
valued_of nan s a c u v p g = elim p [ ]
valued_of (inf _) s a c u v p g = elim p [ ]
valued_of (fin t m e) s a c u v p g = rw (p.0, p.1) (signed_times s a u v (down e) g)

taken : (x u v d : ℕ) → 0 < d → x + v * d ≡ u * d → (x ≡ (u - v) * d) × (u - v + v ≡ u)
taken x u v d D h =
    let l : v ≤ u = le_of_mul-le-mul_right {k = d} (omega arith) D in
    let m : d * (u - v) ≡ d * u - d * v = mul-sub d u v in
    (omega arith, omega arith)

pub of_valued : (x : Float) (u v c : ℕ) → Valued x u v c → (s : Bool) × (a : ℕ) × HasValue x s a c × Signed s a u v
of_valued (fin false m e) u v c p = let k = taken (m * up e * c) u v (down e) (down_pos e) p in (false, u - v, (refl, k.0), k.1)
of_valued nan u v c p = elim p [ ]
of_valued (inf _) u v c p = elim p [ ]
of_valued (fin true m e) u v c p = let k = taken (m * up e * c) v u (down e) (down_pos e) p in (true, v - u, (refl, k.0), k.1)

-- the same value over another denominator
pub valued_times : (x : Float) (u v k : ℕ) → Valued x u v 1 → Valued x (u * k) (v * k) k
valued_times x u v k p =
    let (s, a, h, g) = of_valued x u v 1 p in
    valued_of x s (a * k) k (u * k) (v * k) (rescale x s a 1 (a * k) k (zero-lt-suc 0) (sym (mul-one (a * k))) h) (signed_times s a u v k g)

signed-neg : (s : Bool) (a u v : ℕ) → Signed s a u v → Signed (not s) a v u
signed-neg false a u v g = g
signed-neg true a u v g = g

pub valued_neg : (x : Float) (u v c : ℕ) → Valued x u v c → Valued (neg x) v u c
valued_neg x u v c p = let (s, a, h, g) = of_valued x u v c p in valued_of (neg x) (not s) a c v u (neg_value x s a c h) (signed-neg s a u v g)

-- ---- u - v is less than b in size
abbrev pub Apart : ℕ → ℕ → ℕ → Type 0
Apart u v b = (u < v + b) × (v < u + b)

below : (s : Bool) (a u v b : ℕ) → Signed s a u v → Apart u v b → a < b
below false a u v b k h = omega arith
below true a u v b k h = omega arith

-- ---- what holds of the rounded sum of two differences holds of the sum of the floats
sum_by : (f : Format) (P : Float → Type 0) (s t : Bool) (a b c u v u' v' : ℕ) → ((r : Bool) (n : ℕ) → Signed r n (u + u') (v + v') → P (round f r n c))
    → Signed s a u v → Signed t b u' v' → P (sum f s a t b c)
unfolding sum
sum_by f P false false a b c u v u' v' by k l = by false (a + b) (omega arith)
sum_by f P true true a b c u v u' v' by k l = by true (a + b) (omega arith)
sum_by f P false true a b c u v u' v' by k l = go (ltb a b) refl
  where
    go : (x : Bool) → ltb a b ≡ x → P (cond x (round f true (b - a) c) (round f false (a - b) c))
    go true e = let e' = ltb-true a b e in by true (b - a) (omega arith)
    go false e = let e' = ltb-false a b e in by false (a - b) (omega arith)
sum_by f P true false a b c u v u' v' by k l = go (ltb a b) (ltb b a) refl refl
  where
    go : (x y : Bool) → ltb a b ≡ x → ltb b a ≡ y → P (cond x (round f false (b - a) c) (round f y (a - b) c))
    go true y e d = let e' = ltb-true a b e in by false (b - a) (omega arith)
    go false true e d = let e' = ltb-true b a d in by true (a - b) (omega arith)
    go false false e d = let e' = ltb-false a b e in let d' = ltb-false b a d in by false (a - b) (omega arith)

add_by : (f : Format) (P : Float → Type 0) (x y : Float) (c u v u' v' : ℕ) → 0 < c → ((r : Bool) (n : ℕ) → Signed r n (u + u') (v + v') → P (round f r n c))
    → Valued x u v c → Valued y u' v' c → P (add f x y)
add_by f P x y c u v u' v' C by p q =
    let (s, a, h, k) = of_valued x u v c p in
    let (t, b, g, l) = of_valued y u' v' c q in
    subst P (sym (add-value f x y s t a b c C h g)) (sum_by f P s t a b c u v u' v' by k l)

-- ---- whole numbers: x has the value z. Their differences are exact
abbrev pub Holds : Float → ℤ → Type 0
Holds x z = Valued x (over z) (under z) 1

pub int_holds : (f : Format) (z : ℤ) → nat_abs z ≤ 2 ^ prec f → Holds (of_int f z) z
unfolding of_int
int_holds f (pos n) h = valued_of (round f false n 1) false n 1 n 0 (round_whole f false n h) (omega arith)
int_holds f (negsuc n) h = valued_of (round f true (suc n) 1) true (suc n) 1 0 (suc n) (round_whole f true (suc n) h) (omega arith)

signed_abs : (s : Bool) (a : ℕ) (z : ℤ) (u v : ℕ) → over z + v ≡ under z + u → Signed s a u v → (a ≡ nat_abs z) × Signed s a (over z) (under z)
signed_abs false a (pos n) u v e g = (omega arith, omega arith)
signed_abs false a (negsuc n) u v e g = absurd (omega arith)
signed_abs true a (pos n) u v e g = (omega arith, omega arith)
signed_abs true a (negsuc n) u v e g = (omega arith, omega arith)

pub of_holds : (x : Float) (z : ℤ) → Holds x z → (s : Bool) × HasValue x s (nat_abs z) 1 × Signed s (nat_abs z) (over z) (under z)
of_holds x z p =
    let (s, a, h, g) = of_valued x (over z) (under z) 1 p in
    let k = signed_abs s a z (over z) (under z) (omega arith) g in
    (s, subst (λ (i : ℕ). HasValue x s i 1) k.0 h, subst (λ (i : ℕ). Signed s i (over z) (under z)) k.0 g)

pub one_held : (x : Float) (a b : ℤ) → Holds x a → Holds x b → a ≡ b
one_held nan a b p q = elim p [ ]
one_held (inf _) a b p q = elim p [ ]
one_held (fin s m e) a b p q =
    let l = go s (m * up e * 1) (over a) (under a) (over b) (under b) (down e) (down_pos e) p q in
    both_ways a b (parts_le a b (omega arith)) (parts_le b a (omega arith))
  where
    go : (s : Bool) (x u v u' v' d : ℕ) → 0 < d → Signed s x (u * d) (v * d) → Signed s x (u' * d) (v' * d) → u + v' ≡ u' + v
    go false x u v u' v' d D g k = eq_of_mul-eq-mul_right d D (u + v') (u' + v) (omega arith)
    go true x u v u' v' d D g k = eq_of_mul-eq-mul_right d D (u + v') (u' + v) (omega arith)

pub sub_holds : (f : Format) (x y : Float) (a b : ℤ) → nat_abs (a -ℤ b) ≤ 2 ^ prec f → Holds x a → Holds y b → Holds (sub f x y) (a -ℤ b)
unfolding sub
sub_holds f x y a b h p q =
    add_by f (λ (z : Float). Holds z (a -ℤ b)) x (neg y) 1 (over a) (under a) (under b) (over b) (zero-lt-suc 0)
    (λ r n g.
    let k = signed_abs r n (a -ℤ b) (over a + under b) (under a + over b) (diff_parts a b) g in
    valued_of (round f r n 1) r n 1 (over (a -ℤ b)) (under (a -ℤ b)) (round_whole f r n (subst (λ (i : ℕ). i ≤ 2 ^ prec f) (sym k.0) h)) k.1)
    p (valued_neg y (over b) (under b) 1 q)

-- ---- along a sign: the one pair, or the pair the other way round
abbrev pub swap : Bool → ℕ → ℕ → ℕ
swap false u v = u
swap true u v = v

-- x is (u - v) units along t
abbrev pub Along : Format → Bool → Float → ℕ → ℕ → Type 0
Along f t x u v = Valued x (swap t u v) (swap t v u) (2 ^ low f)

-- x is within e / 2 units of (p - q) units along t
abbrev pub Within : Format → Bool → Float → ℕ → ℕ → ℕ → Type 0
Within f t x p q e = (u : ℕ) × (v : ℕ) × Along f t x u v × Off u v p q e

turn : (f : Format) (t : Bool) (x : Float) (p q e : ℕ) → Within f false x (swap t p q) (swap t q p) e → Within f t x p q e
turn f false x p q e w = w
turn f true x p q e (u, v, i, o) = (v, u, i, (o.1, o.0))

turned : (t : Bool) (p q b : ℕ) → Apart p q b → Apart (swap t p q) (swap t q p) b
turned false p q b h = h
turned true p q b h = (h.1, h.0)

swap_sum : (t : Bool) (u v u' v' : ℕ) → swap t u v + swap t u' v' ≡ swap t (u + u') (v + v')
swap_sum true u v u' v' = refl
swap_sum false u v u' v' = refl

-- a whole number of units, rounded
cancel : (g a U e : ℕ) → 0 < U → Near g U (a * U) e → (2 * g ≤ 2 * a + e) × (2 * a ≤ 2 * g + e)
cancel g a U e P n = (le_of_mul-le-mul_right {k = U} (omega arith) P, le_of_mul-le-mul_right {k = U} (omega arith) P)

around : (s : Bool) (a g p q e : ℕ) → Signed s a p q → (2 * g ≤ 2 * a + e) × (2 * a ≤ 2 * g + e) → (u : ℕ) × (v : ℕ) × Signed s g u v × Off u v p q e
around false a g p q e k l = (g, 0, omega arith, (omega arith, omega arith))
around true a g p q e k l = (0, g, omega arith, (omega arith, omega arith))

round-within : (f : Format) (s : Bool) (a j p q : ℕ) → prec f + j < low f + suc (emax f) → Apart p q (2 ^ (prec f + j)) → Signed s a p q → Within f false (round f s a (2 ^ low f)) p q (2 ^ j)
round-within f s a j p q r h k =
    let U = 2 ^ low f in
    let w = round-near f s a U j (pow_pos (low f)) r (mul-lt-mul_of_pos_right (below s a p q (2 ^ (prec f + j)) k h) (pow_pos (low f))) in
    let (u, v, g, o) = around s a (grid f a U) p q (2 ^ j) k (cancel (grid f a U) a U (2 ^ j) (pow_pos (low f)) w.1) in
    (u, v, valued_of (round f s a U) s (grid f a U) U u v w.0 g, o)

-- ---- sums
pub add-within : (f : Format) (t : Bool) (x y : Float) (j u v u' v' : ℕ) → prec f + j < low f + suc (emax f) → Apart (u + u') (v + v') (2 ^ (prec f + j))
    → Along f t x u v → Along f t y u' v' → Within f t (add f x y) (u + u') (v + v') (2 ^ j)
add-within f t x y j u v u' v' r h p q =
    let b : Apart (swap t u v + swap t u' v') (swap t v u + swap t v' u') (2 ^ (prec f + j)) = rw (swap_sum t u v u' v', swap_sum t v u v' u') (turned t (u + u') (v + v') (2 ^ (prec f + j)) h) in
    let w = add_by f (λ (z : Float). Within f false z (swap t u v + swap t u' v') (swap t v u + swap t v' u') (2 ^ j)) x y (2 ^ low f) (swap t u v) (swap t v u) (swap t u' v') (swap t v' u') (pow_pos (low f))
    (λ s n k. round-within f s n j _ _ r b k) p q in
    turn f t (add f x y) (u + u') (v + v') (2 ^ j) (rw (swap_sum t u v u' v', swap_sum t v u v' u') at w)

-- ---- a whole number times x, along the whole number's sign
signed_mul : (t s : Bool) (n a u v : ℕ) → Signed s a u v → Signed (unlike t s) (n * a) (swap t (n * u) (n * v)) (swap t (n * v) (n * u))
signed_mul false false n a u v k = omega (arith, ap (λ (z : ℕ). n * z) k)
signed_mul false true n a u v k = omega (arith, ap (λ (z : ℕ). n * z) k)
signed_mul true false n a u v k = omega (arith, ap (λ (z : ℕ). n * z) k)
signed_mul true true n a u v k = omega (arith, ap (λ (z : ℕ). n * z) k)

pub mul-within : (f : Format) (t : Bool) (y x : Float) (n j u v : ℕ) → prec f + j < low f + suc (emax f) → Apart (n * u) (n * v) (2 ^ (prec f + j))
    → HasValue y t n 1 → Valued x u v (2 ^ low f) → Within f t (mul f y x) (n * u) (n * v) (2 ^ j)
mul-within f t y x n j u v r h p q =
    let U = 2 ^ low f in
    let (s, a, i, k) = of_valued x u v U q in
    let P = swap t (n * u) (n * v) in
    let Q = swap t (n * v) (n * u) in
    turn f t (mul f y x) (n * u) (n * v) (2 ^ j)
    (subst (λ (z : Float). Within f false z P Q (2 ^ j))
    (sym (mul-value f y x t s n a 1 U (zero-lt-suc 0) (pow_pos (low f)) p i ∙ ap (λ (z : ℕ). round f (unlike t s) (n * a) z) (one-mul U)))
    (round-within f (unlike t s) (n * a) j P Q r (turned t (n * u) (n * v) (2 ^ (prec f + j)) h) (signed_mul t s n a u v k)))

-- ---- a whole number over a whole number of the same sign: x is g units, g within a half of e of a / b
abbrev pub Part : Format → Float → ℕ → ℕ → ℕ → Type 0
Part f x a b e = (g : ℕ) × Valued x g 0 (2 ^ low f) × Near g b (a * 2 ^ low f) e

-- a fraction that is no less than 0, its sign being that of a zero too
part : (f : Format) (s : Bool) (a b j : ℕ) → 0 < b → prec f + j < low f + suc (emax f) → a * 2 ^ low f < 2 ^ (prec f + j) * b → (s ≡ false) ⊎ (a ≡ 0) → Part f (round f s a b) a b (2 ^ j)
part f s a b j B r h (inl e) =
    let w = round-near f s a b j B r h in
    (grid f a b, valued_of (round f s a b) false (grid f a b) (2 ^ low f) (grid f a b) 0 (subst (λ (z : Bool). HasValue (round f s a b) z (grid f a b) (2 ^ low f)) e w.0) (omega arith), w.1)
part f s a b j B r h (inr e) =
    let v = valued_times (round f s a b) 0 0 (2 ^ low f) (valued_of (round f s a b) s 0 1 0 0 (subst (λ (x : Float). HasValue x s 0 1) zero_is (round_whole f s 0 zero-le)) (zeros s)) in
    (0, rw (zero-mul (2 ^ low f)) at v, at_zero b a (2 ^ low f) (2 ^ j) e)
  where
    zero_is : round f s 0 1 ≡ round f s a b
    zero_is = round_same f s 0 1 a b (zero-lt-suc 0) B (rw e (zero-mul b))

    zeros : (s : Bool) → Signed s 0 0 0
    zeros true = refl
    zeros false = refl

    at_zero : (b a U e : ℕ) → a ≡ 0 → Near 0 b (a * U) e
    at_zero b a U e k = let l : a * U ≡ 0 * U = ap (λ (z : ℕ). z * U) k in (omega arith, omega arith)

unlike_self : (s : Bool) → unlike s s ≡ false
unlike_self true = refl
unlike_self false = refl

pub div-within : (f : Format) (x y : Float) (s t : Bool) (a b j : ℕ) → 0 < b → prec f + j < low f + suc (emax f) → a * 2 ^ low f < 2 ^ (prec f + j) * b
    → (s ≡ t) ⊎ (a ≡ 0) → HasValue x s a 1 → HasValue y t b 1 → Part f (div f x y) a b (2 ^ j)
div-within f x y s t a b j B r h k p q =
    subst (λ (z : Float). Part f z a b (2 ^ j)) (sym (div-round f x y s t a b B p q)) (part f (unlike s t) a b j B r h (like k))
  where
    like : (s ≡ t) ⊎ (a ≡ 0) → (unlike s t ≡ false) ⊎ (a ≡ 0)
    like (inl e) = inl (rw e (unlike_self t))
    like (inr e) = inr e

-- ---- the whole number at x toward zero: the floor of what is above 0, and the ceiling of what is below
cut : (n d c u v : ℕ) → 0 < d → n * c + v * d ≡ u * d → 0 < c → (n / d * c + v ≤ u) × (u < suc (n / d) * c + v)
cut n d c u v dp h cp =
    let l : n / d * d * c ≤ n * c = mul-le-mul_right c (div-mul-le_self n d) in
    let m : n * c < (n / d * d + d) * c = mul-lt-mul_of_pos_right (lt-div-mul-add dp) cp in
    (le_of_mul-le-mul_right {k = d} (omega arith) dp, lt_of_mul-lt-mul_right d (omega arith))

abbrev pub to_zero : Bool → Way
to_zero false = floors
to_zero true = ceils

pub cut_at : (s : Bool) (x : Float) (b u v c : ℕ) → 0 < c → v < u → Valued x (swap s u v) (swap s v u) c
    → (k : ℕ) × (within (to_zero s) b x ≡ kept b (signed s k)) × (k * c + v ≤ u) × (u < suc k * c + v)
unfolding within whole_of
cut_at false (fin false m e) b u v c cp l p = let k = cut (m * up e) (down e) c u v (down_pos e) p cp in (m * up e / down e, refl, k.0, k.1)
cut_at false (fin true m e) b u v c cp l p = absurd (omega (arith, p, mul-lt-mul_of_pos_right l (down_pos e)))
cut_at true (fin true m e) b u v c cp l p = let k = cut (m * up e) (down e) c u v (down_pos e) p cp in (m * up e / down e, refl, k.0, k.1)
cut_at false nan b u v c cp l p = elim p [ ]
cut_at false (inf _) b u v c cp l p = elim p [ ]
cut_at true nan b u v c cp l p = elim p [ ]
cut_at true (inf _) b u v c cp l p = elim p [ ]
cut_at true (fin false m e) b u v c cp l p = absurd (omega (arith, p, mul-lt-mul_of_pos_right l (down_pos e)))
