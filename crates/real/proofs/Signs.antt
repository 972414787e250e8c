-- Negation goes through the operations on floats, up to the sign of a zero: a sum that cancels is +0 on either side of the mirror. And
-- what an operation gives for a zero does not turn on its sign, again up to the sign of a zero. Assumes nothing.
use mathlib.Core.Path.{◌≡◌, refl, sym, ap, ◌∙◌, subst}
use mathlib.Core.Logic.{◌⊎◌, inl, inr}
use mathlib.Core.Bool.{Bool, true, false, not, cond, ◌&&◌, ◌||◌, or-true, beq}
use Prim.Native.Nat.{ℕ, zero, suc, ◌+◌, ◌-◌, ◌*◌, ◌^◌, ◌≤◌, ◌<◌}
use native.Mathlib.Nat.{zero-add, zero-mul, mul-zero, mul-pos}
use native.Mathlib.Omega.{arith}
use lib.Dec.{ltb, eqb, eqb-suc-zero}
use lib.IntN.{ℤ, pos, negsuc, neg_ℤ, nat_abs}
use lib.Ieee.{Format, prec, Float, nan, inf, fin, binary32, binary64, up, down, unlike, level, round, neg, sum, add, sub, mul, div, eq, of_int}
use lib.Ieee.Fits.{up_pos, down_pos}
use lib.Ieee.Exact.{HasValue}
use lib.Ieee.Back.{round_whole}
use lib.Ieee.Scale.{round_same}
use borrow.Author.Tests.{ltb-false, eq-eqb, ne_eqb, eqb-true, eqb-false}
use Rattle.rounding.proofs.Signs.{neg-neg, either_neg, round-neg}

-- ---- signs
unlike_both : (s t : Bool) → unlike (not s) (not t) ≡ unlike s t
unlike_both true true = refl
unlike_both true false = refl
unlike_both false true = refl
unlike_both false false = refl

unlike_one : (s t : Bool) → unlike (not s) t ≡ not (unlike s t)
unlike_one true true = refl
unlike_one true false = refl
unlike_one false true = refl
unlike_one false false = refl

beq_both : (s t : Bool) → beq (not s) (not t) ≡ beq s t
beq_both true true = refl
beq_both true false = refl
beq_both false true = refl
beq_both false false = refl

pub eq_neg : (x y : Float) → eq (neg x) (neg y) ≡ eq x y
unfolding eq neg
eq_neg nan y = refl
eq_neg (inf s) nan = refl
eq_neg (inf s) (inf t) = beq_both s t
eq_neg (inf s) (fin t n d) = refl
eq_neg (fin s m e) nan = refl
eq_neg (fin s m e) (inf t) = refl
eq_neg (fin s m e) (fin t n d) = rw (beq_both s t)

-- equality is the same from either side
beq_even : (s t : Bool) → beq s t ≡ beq t s
beq_even true true = refl
beq_even true false = refl
beq_even false true = refl
beq_even false false = refl

level_even : (s t : Bool) (a b : ℕ) → level s a t b ≡ level t b s a
level_even s t a b = go (eqb a b) refl
  where
    go : (x : Bool) → eqb a b ≡ x → level s a t b ≡ level t b s a
    go true e = let d : a ≡ b = eqb-true a b e in subst (λ (z : ℕ). level s a t z ≡ level t z s a) d (ap (λ (w : Bool). eqb a a && w) (ap (λ (z : Bool). z || eqb a 0) (beq_even s t)))
    go false e = rw (e, ne_eqb b a (λ d. eqb-false a b e (sym d))) refl

pub eq_even : (x y : Float) → eq x y ≡ eq y x
unfolding eq
eq_even nan nan = refl
eq_even nan (inf t) = refl
eq_even nan (fin t b d) = refl
eq_even (inf s) nan = refl
eq_even (inf s) (inf t) = beq_even s t
eq_even (inf s) (fin t b d) = refl
eq_even (fin s a e) nan = refl
eq_even (fin s a e) (inf t) = refl
eq_even (fin s a e) (fin t b d) = level_even s t (a * up e * down d) (b * up d * down e)

-- ---- zeros
abbrev pub zero_of : Bool → Float
zero_of s = fin s 0 (pos 0)

abbrev pub Zero : Float → Type 0
Zero x = (s : Bool) × (x ≡ zero_of s)

-- the same value, or two zeros
abbrev pub Alike : Float → Float → Type 0
Alike x y = (x ≡ y) ⊎ (Zero x × Zero y)

pub alike-back : {x y : Float} → Alike x y → Alike y x
alike-back (inl e) = inl (sym e)
alike-back (inr w) = inr (w.1, w.0)

pub alike_on : {x y z : Float} → Alike x y → Alike y z → Alike x z
alike_on {z = z} (inl e) w = subst (λ (u : Float). Alike u z) (sym e) w
alike_on {x} (inr w) (inl e) = subst (λ (u : Float). Alike x u) e (inr w)
alike_on (inr w) (inr v) = inr (w.0, v.1)

-- what a function makes of values that are alike, from what it makes of the two zeros
pub alike_through : {x y : Float} (f : Float → Float) → ((s t : Bool) → Alike (f (zero_of s)) (f (zero_of t))) → Alike x y → Alike (f x) (f y)
alike_through f z (inl e) = inl (ap f e)
alike_through f z (inr w) = rw (w.0.1, w.1.1) (z w.0.0 w.1.0)

pub same_through : {A : Type 0} {x y : Float} (f : Float → A) → ((s t : Bool) → f (zero_of s) ≡ f (zero_of t)) → Alike x y → f x ≡ f y
same_through f z (inl e) = ap f e
same_through f z (inr w) = ap f w.0.1 ∙ z w.0.0 w.1.0 ∙ sym (ap f w.1.1)

-- the same of a function of two
module _ {x' x y' y : Float} where
  pub alike_both : (f : Float → Float → Float) → ((y : Float) (s t : Bool) → Alike (f (zero_of s) y) (f (zero_of t) y)) → ((x : Float) (s t : Bool) → Alike (f x (zero_of s)) (f x (zero_of t)))
      → Alike x' x → Alike y' y → Alike (f x' y') (f x y)
  alike_both f left right v w = alike_on (alike_through (λ (z : Float). f z y') (left y') v) (alike_through (f x) (right x) w)

  pub same_both : {A : Type 0} (f : Float → Float → A) → ((y : Float) (s t : Bool) → f (zero_of s) y ≡ f (zero_of t) y) → ((x : Float) (s t : Bool) → f x (zero_of s) ≡ f x (zero_of t))
      → Alike x' x → Alike y' y → f x' y' ≡ f x y
  same_both f left right v w = same_through (λ (z : Float). f z y') (left y') v ∙ same_through (f x) (right x) w

pub zero_one : (f : Format) (s : Bool) → round f s 0 1 ≡ zero_of s
unfolding round
zero_one binary32 true = refl
zero_one binary32 false = refl
zero_one binary64 true = refl
zero_one binary64 false = refl

pub round_zero : (f : Format) (s : Bool) (n d : ℕ) → 0 < d → n ≡ 0 → round f s n d ≡ zero_of s
round_zero f s n d p e = ap (λ (k : ℕ). round f s k d) e ∙ round_same f s 0 d 0 1 p (omega arith) (simp zero-mul) ∙ zero_one f s

zeros : (s t : Bool) (m n d : ℕ) → 0 < d → m ≡ 0 → n ≡ 0 → Alike (round binary64 s m d) (round binary64 t n d)
zeros s t m n d p e g = inr ((s, round_zero binary64 s m d p e), (t, round_zero binary64 t n d p g))

pub neg_zero : (s : Bool) → neg (zero_of s) ≡ zero_of (not s)
unfolding neg
neg_zero s = refl

-- ---- sums of negated numbers
-- the mirrored sum is the sum's negation, or the two cancel and both sums are +0
abbrev pub Turns : Float → Float → Type 0 → Type 0
Turns x' x C = (x' ≡ neg x) ⊎ (C × (x ≡ zero_of false) × (x' ≡ zero_of false))

turns_map : {x' x : Float} {C D : Type 0} → (C → D) → Turns x' x C → Turns x' x D
turns_map f (inl e) = inl e
turns_map f (inr w) = inr (f w.0, w.1, w.2)

turns_back : {x' x : Float} {C : Type 0} → Turns x' x C → Turns x x' C
turns_back {x = x} (inl e) = inl (sym (ap neg e ∙ neg-neg x))
turns_back (inr w) = inr (w.0, w.2, w.1)

pub turns_alike : {x' x : Float} {C : Type 0} → Turns x' x C → Alike x' (neg x)
turns_alike (inl e) = inl e
turns_alike (inr w) = inr ((false, w.2), (true, ap neg w.1 ∙ neg_zero false))

minus_plus : (a b c : ℕ) → 0 < c → Turns (sum binary64 false a true b c) (sum binary64 true a false b c) (a ≡ b)
unfolding sum
minus_plus a b c p = go (ltb a b) (ltb b a) refl refl
  where
    go : (x y : Bool) → ltb a b ≡ x → ltb b a ≡ y
        → Turns (cond x (round binary64 true (b - a) c) (round binary64 false (a - b) c)) (cond x (round binary64 false (b - a) c) (round binary64 y (a - b) c)) (a ≡ b)
    go true y h k = inl (round-neg binary64 false (b - a) c)
    go false true h k = inl (round-neg binary64 true (a - b) c)
    go false false h k =
        let e : a ≡ b = omega (arith, ltb-false a b h, ltb-false b a k) in
        let z : round binary64 false (a - b) c ≡ zero_of false = round_zero binary64 false (a - b) c p (omega arith) in
        inr (e, z, z)

sum_turns : (s : Bool) (a : ℕ) (t : Bool) (b c : ℕ) → 0 < c
    → Turns (sum binary64 (not s) a (not t) b c) (sum binary64 s a t b c) ((s ≡ not t) × (a ≡ b))
unfolding sum
sum_turns true a true b c p = inl (round-neg binary64 true (a + b) c)
sum_turns false a false b c p = inl (round-neg binary64 false (a + b) c)
sum_turns true a false b c p = turns_map (λ (e : a ≡ b). (refl, e)) (minus_plus a b c p)
sum_turns false a true b c p = turns_map (λ (e : a ≡ b). (refl, e)) (turns_back (minus_plus a b c p))

pub level-same : (s u : Bool) (a b : ℕ) → s ≡ u → a ≡ b → level s a u b ≡ true
level-same s u a b h e = subst (λ (w : Bool). level s a w b ≡ true) h (own s)
  where
    own : (t : Bool) → level t a t b ≡ true
    own true = rw (eq-eqb a b e)
    own false = rw (eq-eqb a b e)

pub add_turns : (x y : Float) → Turns (add binary64 (neg x) (neg y)) (add binary64 x y) (eq (neg y) x ≡ true)
unfolding add neg eq
add_turns nan y = inl refl
add_turns (inf s) nan = inl refl
add_turns (inf true) (inf true) = inl refl
add_turns (inf true) (inf false) = inl refl
add_turns (inf false) (inf true) = inl refl
add_turns (inf false) (inf false) = inl refl
add_turns (inf s) (fin t n d) = inl refl
add_turns (fin s m e) nan = inl refl
add_turns (fin s m e) (inf t) = inl refl
add_turns (fin s m e) (fin t n d) =
    let a = m * up e * down d in
    let b = n * up d * down e in
    turns_map
    (λ (w : (s ≡ not t) × (a ≡ b)). level-same (not t) s b a (sym w.0) (sym w.1))
    (sum_turns s a t b (down e * down d) (mul-pos (down_pos e) (down_pos d)))

-- a difference cancels only where the two are equal
pub sub_turns : (x y : Float) → Turns (sub binary64 (neg x) (neg y)) (sub binary64 x y) (eq y x ≡ true)
unfolding sub
sub_turns x y = turns_map (λ (w : eq (neg (neg y)) x ≡ true). rw (neg-neg y) at w) (add_turns x (neg y))

-- ---- products and quotients of negated numbers
pub mul-neg : (x y : Float) → mul binary64 (neg x) y ≡ neg (mul binary64 x y)
unfolding mul neg
mul-neg nan y = refl
mul-neg (inf s) nan = refl
mul-neg (inf s) (inf t) = ap inf (unlike_one s t)
mul-neg (inf s) (fin t n d) = rw (unlike_one s t) (either_neg (eqb n 0) nan (inf (unlike s t)) refl refl)
mul-neg (fin s m e) nan = refl
mul-neg (fin s m e) (inf t) = rw (unlike_one s t) (either_neg (eqb m 0) nan (inf (unlike s t)) refl refl)
mul-neg (fin s m e) (fin t n d) =
    rw (unlike_one s t) (round-neg binary64 (unlike s t) (m * up e * (n * up d)) (down e * down d))

pub div-neg : (f : Format) (x y : Float) → div f (neg x) y ≡ neg (div f x y)
unfolding div neg
div-neg f nan y = refl
div-neg f (inf s) nan = refl
div-neg f (inf s) (inf t) = refl
div-neg f (inf s) (fin t n d) = ap inf (unlike_one s t)
div-neg f (fin s m e) nan = refl
div-neg f (fin s m e) (inf t) = ap zero_of (unlike_one s t)
div-neg f (fin s m e) (fin t n d) =
    rw (unlike_one s t) (either_neg (eqb n 0) _ _ (either_neg (eqb m 0) nan (inf (unlike s t)) refl refl) (round-neg f (unlike s t) (m * up e * down d) (n * up d * down e)))

div_both : (x y : Float) → div binary64 (neg x) (neg y) ≡ div binary64 x y
unfolding div neg
div_both nan y = refl
div_both (inf s) nan = refl
div_both (inf s) (inf t) = refl
div_both (inf s) (fin t n d) = ap inf (unlike_both s t)
div_both (fin s m e) nan = refl
div_both (fin s m e) (inf t) = ap zero_of (unlike_both s t)
div_both (fin s m e) (fin t n d) = rw (unlike_both s t)

-- ---- operations on a zero of either sign
mul_left : (y : Float) (s t : Bool) → Alike (mul binary64 (zero_of s) y) (mul binary64 (zero_of t) y)
unfolding mul
mul_left nan s t = inl refl
mul_left (inf u) s t = inl refl
mul_left (fin u n d) s t =
    let e = zero-mul (n * up d) in zeros (unlike s u) (unlike t u) _ _ (1 * down d) (mul-pos (omega arith) (down_pos d)) e e

pub mul_right : (x : Float) (s t : Bool) → Alike (mul binary64 x (zero_of s)) (mul binary64 x (zero_of t))
unfolding mul
mul_right nan s t = inl refl
mul_right (inf u) s t = inl refl
mul_right (fin u m e) s t =
    let z = mul-zero (m * up e) in zeros (unlike u s) (unlike u t) _ _ (down e * 1) (mul-pos (down_pos e) (omega arith)) z z

pub mul-alike : {x' x y' y : Float} → Alike x' x → Alike y' y → Alike (mul binary64 x' y') (mul binary64 x y)
mul-alike v w = alike_both (mul binary64) mul_left mul_right v w

div_left : (y : Float) (s t : Bool) → Alike (div binary64 (zero_of s) y) (div binary64 (zero_of t) y)
unfolding div
div_left nan s t = inl refl
div_left (inf u) s t = inr ((unlike s u, refl), (unlike t u, refl))
div_left (fin u zero d) s t = inl refl
div_left (fin u (suc n) d) s t =
    let e = zero-mul (down d) in
    rw (eqb-suc-zero n) (zeros (unlike s u) (unlike t u) _ _ (suc n * up d * 1) (mul-pos (mul-pos (omega arith) (up_pos d)) (omega arith)) e e)

-- x' / y', where x' is -x and y' is -y
pub div-alike : (x y : Float) {x' y' : Float} → Alike x' (neg x) → y' ≡ neg y → Alike (div binary64 x' y') (div binary64 x y)
div-alike x y {x'} w e =
    rw e (subst (λ (z : Float). Alike (div binary64 x' (neg y)) z) (div_both x y) (alike_through (λ (z : Float). div binary64 z (neg y)) (div_left (neg y)) w))

-- 0 and a number of the other sign
zero_less : (u w : Bool) (b c : ℕ) → 0 < c → Alike (cond (ltb 0 b) (round binary64 u (b - 0) c) (round binary64 w (0 - b) c)) (round binary64 u b c)
zero_less u w b c p = go (ltb 0 b) refl
  where
    go : (x : Bool) → ltb 0 b ≡ x → Alike (cond x (round binary64 u (b - 0) c) (round binary64 w (0 - b) c)) (round binary64 u b c)
    go true h = inl (ap (λ (k : ℕ). round binary64 u k c) (omega arith))
    go false h = zeros w u (0 - b) b c p (omega arith) (omega (arith, ltb-false 0 b h))

zero_sum : (s u : Bool) (b c : ℕ) → 0 < c → Alike (sum binary64 s 0 u b c) (round binary64 u b c)
unfolding sum
zero_sum true true b c p = inl (ap (λ (k : ℕ). round binary64 true k c) (zero-add b))
zero_sum false false b c p = inl (ap (λ (k : ℕ). round binary64 false k c) (zero-add b))
zero_sum true false b c p = zero_less false (ltb b 0) b c p
zero_sum false true b c p = zero_less true false b c p

pub add_left : (y : Float) (s t : Bool) → Alike (add binary64 (zero_of s) y) (add binary64 (zero_of t) y)
unfolding add
add_left nan s t = inl refl
add_left (inf u) s t = inl refl
add_left (fin u n d) s t =
    let b = n * up d * 1 in
    let c = 1 * down d in
    let p : 0 < c = mul-pos (omega arith) (down_pos d) in
    rw (zero-mul (down d)) (alike_on (zero_sum s u b c p) (alike-back (zero_sum t u b c p)))

-- ---- equality with a zero of either sign
pub zeros_equal : (s t : Bool) → eq (zero_of s) (zero_of t) ≡ true
unfolding eq
zeros_equal true true = refl
zeros_equal true false = refl
zeros_equal false true = refl
zeros_equal false false = refl

eq_left : (y : Float) (s t : Bool) → eq (zero_of s) y ≡ eq (zero_of t) y
unfolding eq
eq_left nan s t = refl
eq_left (inf u) s t = refl
eq_left (fin u n d) s t = rw (zero-mul (down d), or-true (beq s u), or-true (beq t u))

eq_right : (x : Float) (s t : Bool) → eq x (zero_of s) ≡ eq x (zero_of t)
eq_right x s t = eq_even x (zero_of s) ∙ eq_left x s t ∙ eq_even (zero_of t) x

pub eq_alike : {x' x y' y : Float} → Alike x' x → Alike y' y → eq x' y' ≡ eq x y
eq_alike v w = same_both eq eq_left eq_right v w

-- ---- whole numbers
abbrev pub minus : ℤ → Bool
minus (pos n) = false
minus (negsuc n) = true

pub int_signed : (f : Format) (z : ℤ) → nat_abs z ≤ 2 ^ prec f → HasValue (of_int f z) (minus z) (nat_abs z) 1
unfolding of_int
int_signed f (pos n) h = round_whole f false n h
int_signed f (negsuc n) h = round_whole f true (suc n) h

pub int_value : (f : Format) (z : ℤ) → nat_abs z ≤ 2 ^ prec f → (s : Bool) × HasValue (of_int f z) s (nat_abs z) 1
int_value f z h = (minus z, int_signed f z h)

pub int_neg : (f : Format) (z : ℤ) → (z ≡ pos 0 → ⊥) → of_int f (neg_ℤ z) ≡ neg (of_int f z)
unfolding of_int
int_neg f (pos zero) h = absurd (h refl)
int_neg f (pos (suc n)) h = round-neg f false (suc n) 1
int_neg f (negsuc n) h = round-neg f true (suc n) 1

pub int_alike : (z : ℤ) → Alike (of_int binary64 (neg_ℤ z)) (neg (of_int binary64 z))
unfolding of_int
int_alike (pos zero) = inr ((false, zero_one binary64 false), (true, ap neg (zero_one binary64 false) ∙ neg_zero false))
int_alike (pos (suc n)) = inl (round-neg binary64 false (suc n) 1)
int_alike (negsuc n) = inl (round-neg binary64 true (suc n) 1)
