-- Base ten, a digit at a time from the right. Assumes nothing.
use mathlib.Core.Path.{◌≡◌, refl, sym, ap, subst, ◌∙◌}
use mathlib.Core.Bool.{Bool, true, false, cond}
use mathlib.Core.List.{List, [], ◌∷◌, ◌++◌, append_assoc, append-nil}
use Prim.Native.Nat.{ℕ, zero, suc, ◌+◌, ◌-◌, ◌/◌, ◌%◌, ◌^◌, ◌≤◌, ◌<◌}
use native.Mathlib.Nat.{pow-suc, zero-lt-suc, div-lt_iff_lt-mul}
use native.Mathlib.Omega.{arith}
use lib.Dec.{ltb}
use borrow.Author.Tests.{lt-ltb, le-ltb, ltb-false}
use lib.IntN.{ℤ, pos, negsuc, nat_abs}
use lib.Signed.{lt_z}
use Rattle.ranged1d.proofs.Bools.{chosen}
use lib.ListN.{length, set, drop, replicate, length-append, length-replicate, replicate-append-replicate}
use lib.Seq.{set_at, drop_at}
use Rattle.decimal.specs.declared.Text.{Text}
use Rattle.decimal.specs.Print.{digit, minus, digits, natural, signed_digits, decimal, filled_with, filled_to, padded, text_of}

pub tenth_small : (n k : ℕ) → n < 10 ^ suc k → n / 10 < 10 ^ k
tenth_small n k h = (div-lt_iff_lt-mul (zero-lt-suc 9)).1 (rw (pow-suc 10 k) at h)

-- a number of more than one digit, with at most i
pub tenth_fewer : (i n : ℕ) → 9 < n → n < 10 ^ i → n / 10 < 10 ^ (i - 1)
tenth_fewer zero n h s = absurd (omega arith)
tenth_fewer (suc i) n h s = let e : suc i - 1 ≡ i = omega arith in rw e (tenth_small n i s)

pub two_digits : (i n : ℕ) → 9 < n → n < 10 ^ i → 2 ≤ i
two_digits zero n h s = absurd (omega arith)
two_digits (suc zero) n h s = absurd (omega arith)
two_digits (suc (suc i)) n h s = omega arith

pub digits_more : (i n : ℕ) → 9 < n → n < 10 ^ i → digits (i - 1) n ≡ digits (i - 1 - 1) (n / 10) ++ (digit (n % 10) ∷ [])
unfolding digits
digits_more zero n h s = absurd (omega arith)
digits_more (suc zero) n h s = absurd (omega arith)
digits_more (suc (suc i)) n h s =
    let e : suc (suc i) - 1 ≡ suc i = omega arith in
    let f : suc i - 1 ≡ i = omega arith in
    rw (e, f, le-ltb n 10 h)

pub digits-one : (f n : ℕ) → n ≤ 9 → digits f n ≡ digit n ∷ []
unfolding digits
digits-one zero n h = refl
digits-one (suc f) n h = let l : n < 10 = omega arith in rw (lt-ltb n 10 l)

-- a text of f + 2 bytes that is blank up to the place i, and then has `tail`, before which the digits of n are to come
pub record Spelt (f N i n : ℕ) (t : List ℕ) : Type 0 where
  pub tail : List ℕ
  pub some : 1 ≤ i
  pub most : i ≤ f + 1
  pub left : n < 10 ^ i
  pub long : i + 1 + length tail ≡ f + 2
  pub blank : t ≡ replicate (i + 1) 32 ++ tail
  pub told : digits (i - 1) n ++ tail ≡ digits f N

pub spelt_none : (f N : ℕ) → N < 10 ^ (f + 1) → Spelt f N (f + 1) N (replicate (f + 2) 32)
spelt_none f N h =
    let e : f + 1 + 1 ≡ f + 2 = omega arith in
    let g : f + 1 - 1 ≡ f = omega arith in
    record {
      tail = [];
      some = omega arith;
      most = omega arith;
      left = h;
      long = omega arith;
      blank = rw e (sym (append-nil (replicate (f + 2) 32)));
      told = rw g (append-nil (digits f N));
    }

pub spelt_blank : (t : List ℕ) (N : ℕ) → 2 ≤ length t → t ≡ replicate (length t) 32 → N < 10 ^ (length t - 1) → Spelt (length t - 2) N (length t - 1) N t
spelt_blank t N two e h =
    let f = length t - 2 in
    let i : f + 1 ≡ length t - 1 = omega (arith, two) in
    let w : f + 2 ≡ length t = omega (arith, two) in
    subst (λ (u : List ℕ). Spelt f N (length t - 1) N u) (ap (λ (k : ℕ). replicate k 32) w ∙ sym e)
    (subst (λ (k : ℕ). Spelt f N k N (replicate (f + 2) 32)) i (spelt_none f N (subst (λ (k : ℕ). N < 10 ^ k) (sym i) h)))

-- a character takes the place of the last blank
pub set-blank : (i d : ℕ) (u : List ℕ) → set (replicate (i + 1) 32 ++ u) i d ≡ replicate i 32 ++ (d ∷ u)
set-blank i d u =
    rw (← replicate-append-replicate {A = ℕ} i 1 32, append_assoc (replicate i 32) (32 ∷ []) u)
    (set_at (replicate i 32) 32 u d i (length-replicate i 32))

module _ {f N i n : ℕ} {t : List ℕ} (s : Spelt f N i n t) where
  pub spelt_long : length t ≡ f + 2
  spelt_long = rw (s.blank, length-append, length-replicate) s.long

  pub spelt_set : (d : ℕ) → set t i d ≡ replicate i 32 ++ (d ∷ s.tail)
  spelt_set d = ap (λ (l : List ℕ). set l i d) s.blank ∙ set-blank i d s.tail

  pub spelt_more : 9 < n → Spelt f N (i - 1) (n / 10) (set t i (48 + n % 10))
  spelt_more h =
      let two = two_digits i n h s.left in
      let e : i - 1 + 1 ≡ i = omega (arith, two) in
      record {
        tail = digit (n % 10) ∷ s.tail;
        some = omega (arith, two);
        most = omega (arith, s.most);
        left = tenth_fewer i n h s.left;
        long = omega (arith, s.long, two);
        blank = rw e (spelt_set (48 + n % 10));
        told = sym (append_assoc (digits (i - 1 - 1) (n / 10)) (digit (n % 10) ∷ []) s.tail) ∙ ap (λ (l : List ℕ). l ++ s.tail) (sym (digits_more i n h s.left)) ∙ s.told;
      }

  pub spelt_last : n ≤ 9 → set t i (48 + n) ≡ replicate i 32 ++ digits f N
  spelt_last h = spelt_set (48 + n) ∙ ap (λ (l : List ℕ). replicate i 32 ++ l) (ap (λ (l : List ℕ). l ++ s.tail) (sym (digits-one (i - 1) n h)) ∙ s.told)

  pub spelt_count : n ≤ 9 → i + length (digits f N) ≡ f + 2
  spelt_count h = rw (← s.told, digits-one (i - 1) n h) (omega (arith, s.long))

-- ---- w bytes that are blank up to the place i, where a text begins: without a sign in front of it, and with one
module _ (w i : ℕ) (l t : List ℕ) (begins : i + length l ≡ w) (whole : t ≡ replicate i 32 ++ l) (negative : Bool) (bytes : List ℕ) (blanks : ℕ) where
  pub padded-plain : negative ≡ false → bytes ≡ t → blanks ≡ i → ◌≡◌ {A = Text w} (record { bytes = bytes; blanks = blanks }) (padded w (cond negative (minus ∷ l) l))
  padded-plain s e f = let k : w - length l ≡ i = omega arith in rw (s, e, f, k, whole) refl

  pub padded-minus : 0 < i → negative ≡ true → bytes ≡ set t (i - 1) 45 → blanks ≡ i - 1
      → ◌≡◌ {A = Text w} (record { bytes = bytes; blanks = blanks }) (padded w (cond negative (minus ∷ l) l))
  padded-minus h s e f =
      let k : w - suc (length l) ≡ i - 1 = omega arith in
      let g : i ≡ i - 1 + 1 = omega arith in
      rw (s, e, f, k)
      (ap (λ (u : List ℕ). record { bytes = u; blanks = i - 1 }) (ap (λ (u : List ℕ). set u (i - 1) 45) (whole ∙ ap (λ (j : ℕ). replicate j 32 ++ l) g) ∙ set-blank (i - 1) 45 l))

-- what holds of a last digit, and of one more digit behind those before it, holds of all digits
pub digits_by : (P : ℕ → List ℕ → Type 0) → ((n : ℕ) → P n (digit n ∷ [])) → ((n : ℕ) (l : List ℕ) → P (n / 10) l → P n (l ++ (digit (n % 10) ∷ []))) → (f n : ℕ) → P n (digits f n)
unfolding digits
digits_by P one more zero n = one n
digits_by P one more (suc f) n = chosen (P n) (ltb n 10) (one n) (more n (digits f (n / 10)) (digits_by P one more f (n / 10)))

-- how long a text is, of any number
pub digits-most : (f n : ℕ) → length (digits f n) ≤ f + 1
unfolding digits
digits-most zero n = omega arith
digits-most (suc f) n =
    let l = digits f (n / 10) in
    chosen (λ (d : List ℕ). length d ≤ suc f + 1) (ltb n 10) (omega arith) (omega (arith, length-append l (digit (n % 10) ∷ []), digits-most f (n / 10)))

pub decimal-most : (v : ℤ) → length (decimal v) ≤ 11
decimal-most (pos n) = omega (arith, digits-most 9 n)
decimal-most (negsuc n) = omega (arith, digits-most 9 (suc n))

pub natural-most : (n : ℕ) → length (natural n) ≤ 11
natural-most n = omega (arith, digits-most 9 n)

pub filled_long : (c w : ℕ) (t : List ℕ) → length t ≤ w → length (filled_with c w t) ≡ w
filled_long c w t h = rw (length-append (replicate (w - length t) c) t, length-replicate {A = ℕ} (w - length t) c) (omega arith)

-- a text of w bytes that is l filled with blanks: how many they are, and what stands behind them
pub record Told (w blanks : ℕ) (bytes l : List ℕ) : Type 0 where
  pub low : blanks ≤ w
  pub count : w - blanks ≡ length l
  pub long : length bytes ≡ w
  pub text : drop blanks bytes ≡ l

told : (w : ℕ) (l : List ℕ) → length l ≤ w → Told w (w - length l) (filled_to w l) l
told w l h = record {
  low = omega arith;
  count = omega arith;
  long = filled_long 32 w l h;
  text = drop_at (replicate (w - length l) 32) l (w - length l) (length-replicate {A = ℕ} (w - length l) 32);
}

pub padded_told : (w : ℕ) (l : List ℕ) → length l ≤ w → {t : Text w} → t ≡ padded w l → Told w t.blanks t.bytes l
padded_told w l h e = subst (λ (u : Text w). Told w u.blanks u.bytes l) (sym e) (told w l h)

pub text_told : (l : List ℕ) → length l ≤ 11 → {t : Text 11} → t ≡ text_of l → Told 11 t.blanks t.bytes l
text_told l h e = padded_told 11 l h e

-- ---- enough digits: a number below 10 ^ k has at most k, and more fuel than it needs changes nothing
pub digits_fuel : (f n : ℕ) → n < 10 ^ suc f → digits f n ≡ digits (suc f) n
unfolding digits
digits_fuel zero n h = rw (lt-ltb n 10 h)
digits_fuel (suc f) n h =
    ap (λ (l : List ℕ). cond (ltb n 10) (digit n ∷ []) (l ++ (digit (n % 10) ∷ []))) (digits_fuel f (n / 10) (tenth_small n (suc f) h))

pub digits-few : (f k n : ℕ) → n < 10 ^ suc k → length (digits f n) ≤ suc k
unfolding digits
digits-few zero k n h = omega arith
digits-few (suc f) k n h = go (ltb n 10) refl (digits-few f)
  where
    more : (k : ℕ) → n < 10 ^ suc k → 10 ≤ n → ((j m : ℕ) → m < 10 ^ suc j → length (digits f m) ≤ suc j) → length (digits f (n / 10)) + 1 ≤ suc k
    more zero h l r = absurd (omega arith)
    more (suc j) h l r = let q = r j (n / 10) (tenth_small n (suc j) h) in omega arith

    go : (t : Bool) → ltb n 10 ≡ t → ((j m : ℕ) → m < 10 ^ suc j → length (digits f m) ≤ suc j) → length (cond t (digit n ∷ []) (digits f (n / 10) ++ (digit (n % 10) ∷ []))) ≤ suc k
    go true e r = omega arith
    go false e r = rw (length-append (digits f (n / 10)) (digit (n % 10) ∷ [])) (more k h (ltb-false n 10 e) r)

-- the sign and the size of a number, as the code takes them apart
pub signed-text : (v : ℤ) → signed_digits (lt_z v (pos 0)) 9 (nat_abs v) ≡ decimal v
signed-text (pos n) = rw (le-ltb n 0 (omega arith))
signed-text (negsuc n) = refl
