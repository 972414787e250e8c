-- How the code comes to the floor of a number below 2 ^ 52 in size: with 2 ^ 52 added and taken away it is a whole number next to it, and one comparison tells which. Assumes nothing.
use Rattle.std.proofs.Common.{◌≡◌, ℕ, zero, suc, ◌+◌, ◌-◌, ◌*◌, ◌^◌, ◌<◌, ◌≤◌, Bool, true, false, not, ℤ, pos, negsuc, ◌+ℤ◌, neg_ℤ, nat_abs, sym, refl, ap, ◌∙◌, true≢false, zero-le, add-zero, suc-mul, add-mul, lt_of_mul-lt-mul_right, one-mul, zero-mul, mul-one, arith, ltb-false, ltb-true, lt-ltb}
use mathlib.Core.Bool.{false≢true}
use lib.IntN.{neg_ℤ-neg_ℤ, neg_ℤ-+ℤ, +ℤ-neg_ℤ_cancel}
use lib.Ieee.{Float, nan, inf, fin, Format, binary64, up, down, round, sum, add, sub, neg, lt, of_int}
use lib.Ieee.Fits.{down_pos}
use lib.Ieee.Nearest.{closest}
use lib.Ieee.Back.{round_whole}
use lib.Ieee.Exact.{HasValue}
use Rattle.ranged1d.proofs.Whole.{neg-far}
use Rattle.rounding.specs.Integral.{floors, sized}
use Rattle.rounding.specs.Within.{signed, whole_of}
use Rattle.rounding.proofs.Compare.{Says, Tells, says, under, over}
use Rattle.rounding.proofs.Quotients.{Next, sized_is}
use Rattle.rounding.proofs.Signs.{zero_f}
use Rattle.rounding.proofs.Sums.{add-whole, whole_sum, landed, landed_next, landed_ge}

-- ±2 ^ 52, and 1
abbrev pub big : Bool → Float
big s = fin s 1 (pos 52)

abbrev pub one_f : Float
one_f = fin false 1 (pos 0)

-- ---- ±q as an integer
pub signed_abs : (s : Bool) (q : ℕ) → nat_abs (signed s q) ≡ q
signed_abs false q = refl
signed_abs true q = neg-far (pos q)

pos_less : (q c : ℕ) → c ≤ q → pos q +ℤ neg_ℤ (pos c) ≡ pos (q - c)
pos_less q c h =
    let e : q ≡ q - c + c = omega arith in
    ap (λ (k : ℕ). pos k +ℤ neg_ℤ (pos c)) e ∙ +ℤ-neg_ℤ_cancel (pos (q - c)) (pos c)

signed-less : (s : Bool) (q c : ℕ) → c ≤ q → signed s q +ℤ signed (not s) c ≡ signed s (q - c)
signed-less false q c h = pos_less q c h
signed-less true q c h =
    ap (λ (z : ℤ). neg_ℤ (pos q) +ℤ z) (sym (neg_ℤ-neg_ℤ (pos c))) ∙ sym (neg_ℤ-+ℤ (pos q) (neg_ℤ (pos c))) ∙ ap neg_ℤ (pos_less q c h)

-- one less, on either side of zero
pub one_less : (k : ℕ) → pos (suc k) +ℤ negsuc 0 ≡ pos k
one_less k = let e : suc k - 1 ≡ k = omega arith in pos_less (suc k) 1 (omega arith) ∙ ap pos e

pub one_more : (q : ℕ) → neg_ℤ (pos q) +ℤ negsuc 0 ≡ neg_ℤ (pos (suc q))
one_more zero = refl
one_more (suc k) = ap (λ (j : ℕ). negsuc (suc j)) (add-zero k)

pub of_signed : (f : Format) (s : Bool) (q : ℕ) → 0 < q → of_int f (signed s q) ≡ round f s q 1
unfolding of_int
of_signed f false q p = refl
of_signed f true zero p = absurd (omega arith)
of_signed f true (suc k) p = refl

-- ---- x against ±q of its own sign, 0 being +0 in either
zero_after : (t : Bool) (m : ℕ) (e : ℤ) → lt (fin true m e) zero_f ≡ t → Says t 0 (m * up e)
unfolding lt
zero_after t m e h = simp (mul-one, one-mul, zero-mul, add-zero) at (says 0 (m * up e * 1 + 0 * down e) t h)

zero_before : (t : Bool) (m : ℕ) (e : ℤ) → lt zero_f (fin true m e) ≡ t → Says t (m * up e) 0
unfolding lt
zero_before true m e h = absurd (false≢true h)
zero_before false m e h = zero-le

pub after : (s t : Bool) (m : ℕ) (e : ℤ) (q : ℕ) → q ≤ 2 ^ 53 → lt (fin s m e) (of_int binary64 (signed s q)) ≡ t → Tells s t (m * up e) (q * down e)
unfolding of_int
after false t m e q b h = under false t m e (round binary64 false q 1) q (round_whole binary64 false q b) h
after true t m e (suc k) b h = under true t m e (round binary64 true (suc k) 1) (suc k) (round_whole binary64 true (suc k) b) h
after true t m e zero b h = simp zero-mul (zero_after t m e h)

pub before : (s t : Bool) (m : ℕ) (e : ℤ) (q : ℕ) → q ≤ 2 ^ 53 → lt (of_int binary64 (signed s q)) (fin s m e) ≡ t → Tells s t (q * down e) (m * up e)
unfolding of_int
before false t m e q b h = over false t m e (round binary64 false q 1) q (round_whole binary64 false q b) h
before true t m e (suc k) b h = over true t m e (round binary64 true (suc k) 1) (suc k) (round_whole binary64 true (suc k) b) h
before true t m e zero b h = simp zero-mul (zero_before t m e h)

-- ---- the sum with ±2 ^ 52 and the difference
to_big : (s : Bool) (m : ℕ) (e : ℤ) → add binary64 (fin s m e) (big s) ≡ round binary64 s (m * up e + 4503599627370496 * down e) (down e)
unfolding add sum
to_big false m e = rw (mul-one (m * up e), mul-one (down e))
to_big true m e = rw (mul-one (m * up e), mul-one (down e))

minus_big : (s : Bool) → neg (big s) ≡ of_int binary64 (signed (not s) 4503599627370496)
unfolding neg of_int
minus_big false = refl
minus_big true = refl

less_big : (n d q : ℕ) → Next (n + 4503599627370496 * d) d q → 4503599627370496 ≤ q → n < 4503599627370496 * d → Next n d (q - 4503599627370496) × (q - 4503599627370496 ≤ 2 ^ 52)
less_big n d q h l b =
    let k = q - 4503599627370496 in
    let e : q ≡ k + 4503599627370496 = omega arith in
    let p : q * d ≡ k * d + 4503599627370496 * d = ap (λ (z : ℕ). z * d) e ∙ add-mul k 4503599627370496 d in
    let u : k < 2 ^ 52 + 1 = lt_of_mul-lt-mul_right d (omega arith) in
    ((omega arith, omega arith), omega arith)

-- a float next to x, of x's sign
abbrev pub Anchored : Float → Float → Type 0
Anchored nan t = ⊥
Anchored (inf s) t = ⊥
Anchored (fin s m e) t = (q : ℕ) × (q ≤ 2 ^ 52) × Next (m * up e) (down e) q × (t ≡ of_int binary64 (signed s q))

anchored_fin : (s : Bool) (m : ℕ) (e : ℤ) → m * up e < 4503599627370496 * down e → Anchored (fin s m e) (sub binary64 (add binary64 (fin s m e) (big s)) (big s))
unfolding sub
anchored_fin s m e h =
    let n = m * up e in
    let d = down e in
    let N = n + 4503599627370496 * d in
    let q = closest N d in
    let lo : 2 ^ 52 * d ≤ N = omega arith in
    let hi : N < 2 ^ 53 * d = omega arith in
    let ge : 4503599627370496 ≤ q = landed_ge binary64 N d (down_pos e) lo hi in
    let r = less_big n d q (landed_next binary64 N d (down_pos e) lo hi) ge h in
    let y : add binary64 (fin s m e) (big s) ≡ of_int binary64 (signed s q) =
    to_big s m e ∙ landed binary64 N d (down_pos e) lo hi s ∙ sym (of_signed binary64 s q (omega arith)) in (
      q - 4503599627370496,
      r.1,
      r.0,
      ap (λ (z : Float). add binary64 z (neg (big s))) y ∙ ap (add binary64 (of_int binary64 (signed s q))) (minus_big s)
          ∙ whole_sum binary64 (signed s q) (signed (not s) 4503599627370496) (rw (signed_abs s q) (omega arith)) (rw (signed_abs (not s) 4503599627370496) (omega arith))
          ∙ ap (of_int binary64) (signed-less s q 4503599627370496 ge),
    )

-- -0 takes +2 ^ 52
anchored_zero : (m : ℕ) (e : ℤ) → m * up e ≡ 0 → Anchored (fin true m e) (sub binary64 (add binary64 (fin true m e) (big false)) (big false))
unfolding sum sub of_int
anchored_zero m e h = (
  0,
  zero-le,
  (omega (arith, down_pos e), omega (arith, down_pos e)),
  ap (λ (z : Float). add binary64 z (neg (big false))) (add-whole binary64 (fin true m e) (big false) true false 0 4503599627370496 (refl, omega arith) (refl, refl)),
)

-- x is finite and below C in size
abbrev pub LessThan : ℕ → Float → Type 0
LessThan C nan = ⊥
LessThan C (inf s) = ⊥
LessThan C (fin s m e) = m * up e < C * down e

-- ±2 ^ k, as a fraction
pub power : (s : Bool) (k : ℕ) → HasValue (fin s 1 (pos k)) s (2 ^ k) 1
power s k = (refl, ap (λ (n : ℕ). n * 1) (one-mul (2 ^ k)))

-- what lies between −2 ^ k and 2 ^ k
pub below_power : (k : ℕ) (x : Float) → lt (fin true 1 (pos k)) x ≡ true → lt x (fin false 1 (pos k)) ≡ true → LessThan (2 ^ k) x
unfolding lt
below_power k nan g h = false≢true g
below_power k (inf true) g h = false≢true g
below_power k (inf false) g h = false≢true h
below_power k (fin true m e) g h = over true true m e (fin true 1 (pos k)) (2 ^ k) (power true k) g
below_power k (fin false m e) g h = under false true m e (fin false 1 (pos k)) (2 ^ k) (power false k) h

abbrev pub Small : Float → Type 0
Small x = LessThan 4503599627370496 x

pub not_below : (m : ℕ) (e : ℤ) → lt (fin true m e) zero_f ≡ false → m * up e ≡ 0
unfolding lt
not_below m e h = let l : m * up e * 1 + 0 * down e ≤ 0 = ltb-false 0 (m * up e * 1 + 0 * down e) h in omega arith

not_negative : (m : ℕ) (e : ℤ) → lt (fin false m e) zero_f ≡ true → ⊥
unfolding lt
not_negative m e h = let l : m * up e * 1 < 0 * down e = ltb-true (m * up e * 1) (0 * down e) h in omega arith

-- what is not below zero is above -2 ^ 52, a NaN apart
pub above_big : (x : Float) → lt x (big false) ≡ true → lt x zero_f ≡ false → lt (big true) x ≡ true
unfolding lt
above_big nan l h = l
above_big (inf true) l h = absurd (true≢false h)
above_big (inf false) l h = refl
above_big (fin false m e) l h = lt-ltb 0 (4503599627370496 * down e + m * up e * 1) (omega (arith, down_pos e))
above_big (fin true m e) l h = let z = not_below m e h in lt-ltb (m * up e * 1) (4503599627370496 * down e) (omega (arith, down_pos e))

-- ---- what the code has before the comparison: c is ±2 ^ 52, with the sign of an x that is not zero
pub anchored : (s : Bool) (x : Float) → Small x → lt x zero_f ≡ s → Anchored x (sub binary64 (add binary64 x (big s)) (big s))
anchored true (fin true m e) b h = anchored_fin true m e b
anchored true (fin false m e) b h = absurd (not_negative m e h)
anchored false (fin true m e) b h = anchored_zero m e (not_below m e h)
anchored false nan b h = elim b [ ]
anchored false (inf _) b h = elim b [ ]
anchored true nan b h = elim b [ ]
anchored true (inf _) b h = elim b [ ]
anchored false (fin false m e) b h = anchored_fin false m e b

-- ---- and after it
at-floor : (s : Bool) (m : ℕ) (e : ℤ) (k : ℕ) → sized floors s (m * up e) (down e) ≡ k → whole_of floors (fin s m e) ≡ signed s k
unfolding whole_of
at-floor s m e k h = ap (signed s) h

less_one : (z : ℤ) → nat_abs z ≤ 2 ^ 53 → sub binary64 (of_int binary64 z) one_f ≡ of_int binary64 (z +ℤ negsuc 0)
unfolding sub of_int neg
less_one z h = whole_sum binary64 z (negsuc 0) h (omega arith)

pub floor-less : (x t : Float) → Anchored x t → lt x t ≡ true → sub binary64 t one_f ≡ of_int binary64 (whole_of floors x)
floor-less nan t a h = elim a [ ]
floor-less (inf _) t a h = elim a [ ]
floor-less (fin s m e) t a h =
    let q = a.0 in
    let n = m * up e in
    let d = down e in
    let b : nat_abs (signed s q) ≤ 2 ^ 53 = rw (signed_abs s q) (omega (arith, a.1)) in
    rw a.3 (less_one (signed s q) b ∙ ap (of_int binary64) (go s m e q a.2 (after s true m e q (omega (arith, a.1)) (rw a.3 at h))))
  where
    go : (s : Bool) (m : ℕ) (e : ℤ) (q : ℕ) → Next (m * up e) (down e) q → Tells s true (m * up e) (q * down e) → signed s q +ℤ negsuc 0 ≡ whole_of floors (fin s m e)
    go false m e zero x l = absurd (omega (arith, zero-mul (down e)))
    go false m e (suc k) x l =
        one_less k ∙ sym (at-floor false m e k (sized_is floors false (m * up e) (down e) k (down_pos e) (omega (arith, suc-mul k (down e)), omega (arith, suc-mul k (down e)))))
    go true m e q x l =
        one_more q ∙ sym (at-floor true m e (suc q) (sized_is floors true (m * up e) (down e) (suc q) (down_pos e) (omega (arith, suc-mul q (down e)), omega (arith, suc-mul q (down e)))))

pub floor-same : (x t : Float) → Anchored x t → lt x t ≡ false → t ≡ of_int binary64 (whole_of floors x)
floor-same nan t a h = elim a [ ]
floor-same (inf _) t a h = elim a [ ]
floor-same (fin s m e) t a h =
    a.3 ∙ ap (of_int binary64) (sym (at-floor s m e a.0 (go s (m * up e) (down e) a.0 (down_pos e) a.2 (after s false m e a.0 (omega (arith, a.1)) (rw a.3 at h)))))
  where
    go : (s : Bool) (n d q : ℕ) → 0 < d → Next n d q → Tells s false n (q * d) → sized floors s n d ≡ q
    go false n d q p x l = sized_is floors false n d q p (l, x.0)
    go true n d q p x l = sized_is floors true n d q p (l, x.1)
