-- An operation on two floats whose values are known as fractions is the rounded fraction of the result. Assumes nothing.
use Rattle.std.proofs.Common.{◌≡◌, ℕ, ◌+◌, ◌-◌, ◌*◌, ◌<◌, ◌≤◌, Bool, true, false, not, ◌&&◌, ltb, refl, ap, ◌∙◌, mul-le-mul_right, zero-lt-suc, mul_assoc, mul_comm, pos_of_ne-zero, lt_of_mul-lt-mul_right, mul-lt-mul_of_pos_right, mul-pos, zero-mul, mul-one, mul_right_comm, le_of_mul-le-mul_right, arith, ltb-false, ltb-true, le-ltb, lt-ltb, ne_eqb}
use native.Mathlib.Nat.{mul-mul-mul_comm, mul-sub, eq_of_mul-eq-mul_right}
use lib.Ieee.{Float, fin, Format, up, down, unlike, round, sum, add, neg, mul, div, inf, nan}
use lib.Ieee.Fits.{up_pos, down_pos}
use lib.Ieee.Exact.{HasValue}
use lib.Ieee.Scale.{round_same}

-- ---- products
cross_mul : (x y k l a b c d : ℕ) → x * c ≡ a * k → y * d ≡ b * l → x * y * (c * d) ≡ a * b * (k * l)
cross_mul x y k l a b c d p q = mul-mul-mul_comm x y c d ∙ rw (p, q) (mul-mul-mul_comm a k b l)

pub mul-value : (f : Format) (x y : Float) (s t : Bool) (a b c d : ℕ) → 0 < c → 0 < d → HasValue x s a c → HasValue y t b d
    → mul f x y ≡ round f (unlike s t) (a * b) (c * d)
unfolding mul
mul-value f nan y s t a b c d C D p q = elim p [ ]
mul-value f (inf _) y s t a b c d C D p q = elim p [ ]
mul-value f (fin u m e) nan s t a b c d C D p q = elim q [ ]
mul-value f (fin u m e) (inf _) s t a b c d C D p q = elim q [ ]
mul-value f (fin u m e) (fin v n g) s t a b c d C D p q =
    rw (p.0, q.0)
    (round_same f (unlike s t) (m * up e * (n * up g)) (down e * down g) (a * b) (c * d) (mul-pos (down_pos e) (down_pos g)) (mul-pos C D)
    (cross_mul (m * up e) (n * up g) (down e) (down g) a b c d p.1 q.1))

-- ---- quotients
cross_div : (x y k l a b c d : ℕ) → x * c ≡ a * k → y * d ≡ b * l → x * l * (b * c) ≡ a * d * (y * k)
cross_div x y k l a b c d p q =
    let r : x * c * (b * l) ≡ a * k * (y * d) = rw (p, q) in
    omega arith

-- a number that is not 0 has digits
some-digits : (k u d b l : ℕ) → 0 < b → 0 < l → k * u * d ≡ b * l → k ≡ 0 → ⊥
some-digits k u d b l B L h z =
    let m : 0 < b * l = mul-pos B L in
    omega (arith, ap (λ (i : ℕ). i * u * d) z, zero-mul u, zero-mul d)

pub div_value : (f : Format) (x y : Float) (s t : Bool) (a b c d : ℕ) → 0 < c → 0 < b → HasValue x s a c → HasValue y t b d
    → div f x y ≡ round f (unlike s t) (a * d) (b * c)
unfolding div
div_value f nan y s t a b c d C B p q = elim p [ ]
div_value f (inf _) y s t a b c d C B p q = elim p [ ]
div_value f (fin u m e) nan s t a b c d C B p q = elim q [ ]
div_value f (fin u m e) (inf _) s t a b c d C B p q = elim q [ ]
div_value f (fin u m e) (fin v n g) s t a b c d C B p q =
    let some = some-digits n (up g) d b (down g) B (down_pos g) q.1 in
    rw (ne_eqb n 0 some, p.0, q.0)
    (round_same f (unlike s t) (m * up e * down g) (n * up g * down e) (a * d) (b * c)
    (mul-pos (mul-pos (pos_of_ne-zero some) (up_pos g)) (down_pos e)) (mul-pos B C)
    (cross_div (m * up e) (n * up g) (down e) (down g) a b c d p.1 q.1))

-- of whole numbers
pub div-round : (f : Format) (x y : Float) (s t : Bool) (k n : ℕ) → 0 < n → HasValue x s k 1 → HasValue y t n 1 → div f x y ≡ round f (unlike s t) k n
div-round f x y s t k n some a b = div_value f x y s t k n 1 1 (zero-lt-suc 0) some a b ∙ rw (mul-one k, mul-one n)

-- ---- sums: ±A / k + ±B / k sees only the values of the two fractions
order_same : (A B k a b c : ℕ) → 0 < k → 0 < c → A * c ≡ a * k → B * c ≡ b * k → ltb A B ≡ ltb a b
order_same A B k a b c K C p q = go (ltb a b) refl
  where
    go : (z : Bool) → ltb a b ≡ z → ltb A B ≡ z
    go true h = let m : a * k < b * k = mul-lt-mul_of_pos_right (ltb-true a b h) K in lt-ltb A B (lt_of_mul-lt-mul_right c (omega arith))
    go false h = let m : b * k ≤ a * k = mul-le-mul_right k (ltb-false a b h) in le-ltb A B (le_of_mul-le-mul_right {k = c} (omega arith) C)

sub_cross : (A B k a b c : ℕ) → A * c ≡ a * k → B * c ≡ b * k → (A - B) * c ≡ (a - b) * k
sub_cross A B k a b c p q = rw (mul_comm (A - B) c, mul_comm (a - b) k, mul-sub c A B, mul-sub k a b, mul_comm c A, mul_comm c B, mul_comm k a, mul_comm k b, p, q)

sum_same : (f : Format) (s t : Bool) (A B k a b c : ℕ) → 0 < k → 0 < c → A * c ≡ a * k → B * c ≡ b * k → sum f s A t B k ≡ sum f s a t b c
unfolding sum
sum_same f s t A B k a b c K C p q =
    rw (
      order_same A B k a b c K C p q,
      order_same B A k b a c K C q p,
      round_same f s (A + B) k (a + b) c K C (omega arith),
      round_same f t (B - A) k (b - a) c K C (sub_cross B A k b a c q p),
      round_same f (s && ltb b a) (A - B) k (a - b) c K C (sub_cross A B k a b c p q),
    )

-- the fraction x / e is a / c: with both sides times g
over_both : (x e g a c : ℕ) → x * c ≡ a * e → x * g * c ≡ a * (e * g)
over_both x e g a c h = mul_right_comm x g c ∙ ap (λ (z : ℕ). z * g) h ∙ mul_assoc a e g

pub add-value : (f : Format) (x y : Float) (s t : Bool) (a b c : ℕ) → 0 < c → HasValue x s a c → HasValue y t b c → add f x y ≡ sum f s a t b c
unfolding add
add-value f nan y s t a b c C p q = elim p [ ]
add-value f (inf _) y s t a b c C p q = elim p [ ]
add-value f (fin u m e) nan s t a b c C p q = elim q [ ]
add-value f (fin u m e) (inf _) s t a b c C p q = elim q [ ]
add-value f (fin u m e) (fin v n g) s t a b c C p q =
    rw (p.0, q.0)
    (sum_same f s t (m * up e * down g) (n * up g * down e) (down e * down g) a b c (mul-pos (down_pos e) (down_pos g)) C
    (over_both (m * up e) (down e) (down g) a c p.1)
    (over_both (n * up g) (down g) (down e) b c q.1 ∙ ap (λ (z : ℕ). b * z) (mul_comm (down g) (down e))))

pub neg_value : (x : Float) (s : Bool) (a c : ℕ) → HasValue x s a c → HasValue (neg x) (not s) a c
unfolding neg
neg_value nan s a c p = elim p [ ]
neg_value (inf _) s a c p = elim p [ ]
neg_value (fin u m e) s a c p = (ap not p.0, p.1)

-- the same value as another fraction
pub rescale : (x : Float) (s : Bool) (a c b d : ℕ) → 0 < c → a * d ≡ b * c → HasValue x s a c → HasValue x s b d
rescale nan s a c b d C h v = elim v [ ]
rescale (inf _) s a c b d C h v = elim v [ ]
rescale (fin t m e) s a c b d C h v =
    let v' : m * up e * c ≡ a * down e = v.1 in
    (v.0, eq_of_mul-eq-mul_right c C (m * up e * d) (b * down e) (mul_right_comm (m * up e) d c ∙ ap (λ (z : ℕ). z * d) v' ∙ mul_right_comm a (down e) d ∙ ap (λ (z : ℕ). z * down e) h ∙ mul_right_comm b c (down e)))
