-- Texts with a point: how they are put together, how long they are, and what number they stand for. Assumes nothing.
use mathlib.Core.Path.{◌≡◌, refl, sym, ap, ap₂, ◌∙◌}
use mathlib.Core.Bool.{Bool, true, false, true≢false, cond, ◌&&◌}
use lib.Pointwise.{pointwise}
use Rattle.std.specs.Fmt.{decimal as written}
use Rattle.std.proofs.lemmas.Grind.{pow_more}
use native.Mathlib.Numerals.{add-one}
use mathlib.Core.List.{List, [], ◌∷◌, ◌++◌}
use Prim.Native.Nat.{ℕ, zero, suc, ◌+◌, ◌-◌, ◌*◌, ◌/◌, ◌%◌, ◌^◌, ◌≤◌, ◌<◌}
use native.Mathlib.Nat.{div-one, div-add-mod', div-lt_iff_lt-mul, pow-le-pow_right, zero-lt-suc, lt_of_lt_of_le}
use lib.Pow.{pow-add}
use native.Mathlib.Omega.{arith}
use borrow.Author.Tests.{le-ltb, eq-eqb, ne_eqb}
use lib.Dec.{eqb}
use lib.IntN.{ℤ, pos, negsuc, neg_ℤ, nat_abs}
use lib.Signed.{lt_z}
use lib.ListN.{length, get_or, set, take, drop, replicate, take-append-drop, length-append, length-replicate, drop_of_length-le, get_or-append}
use Rattle.std.proofs.lemmas.List.{take-replicate}
use lib.Seq.{drop-cons, drop_at, take-append-le}
use Rattle.ranged1d.proofs.Bools.{both_true}
use Rattle.decimal.specs.Print.{point, digit, minus, digits, natural, padded}
use Rattle.decimal.specs.Read.{value_of}
use Rattle.decimal.proofs.Digits.{digits_by, digits-few, padded-plain, padded-minus}
use Rattle.decimal.specs.declared.Text.{Text}
use Rattle.fixed.proofs.Written.{digits-written}
use Rattle.decimal.proofs.Reader.{digits_head, value-append, value-digits}
use Rattle.fixed.specs.Fixed.{last_digits, fraction, size_text, fixed_text, unpointed, number_in}
use Rattle.fixed.proofs.Fractions.{fraction-most}
use Rattle.decimal.proofs.LastDigits.{tenths}

-- ---- how long a text is
pub tens_pos : (f : ℕ) → 0 < 10 ^ f
tens_pos f = lt_of_lt_of_le (zero-lt-suc 0) (pow-le-pow_right (zero-lt-suc 9) {i = 0} {j = f} (omega arith))

module _ (f n : ℕ) (few : f ≤ 6) (small : n ≤ 1000000000) where
  whole_small : n / 10 ^ f < 10 ^ suc (9 - f)
  whole_small =
      let e : suc (9 - f) + f ≡ 10 = omega arith in
      let s : 10 ^ suc (9 - f) * 10 ^ f ≡ 10 ^ 10 = sym (pow-add 10 (suc (9 - f)) f) ∙ ap (λ (k : ℕ). 10 ^ k) e in
      (div-lt_iff_lt-mul (tens_pos f)).1 (rw s (omega arith))

  whole-under : n / 10 ^ f < 10 ^ 10
  whole-under = lt_of_lt_of_le whole_small (pow-le-pow_right (zero-lt-suc 9) {i = suc (9 - f)} {j = 10} (omega arith))

  size-most : length (size_text f n) ≤ 11
  unfolding size_text
  size-most =
      rw (length-append (natural (n / 10 ^ f)) (fraction f n))
      (omega (arith, digits-few 9 (9 - f) (n / 10 ^ f) whole_small, fraction-most f n))

pub fixed_most : (f : ℕ) (z : ℤ) → f ≤ 6 → nat_abs z ≤ 1000000000 → length (fixed_text f z) ≤ 12
fixed_most f (pos n) h s = omega (arith, size-most f n h s)
fixed_most f (negsuc n) h s = omega (arith, size-most f (suc n) h s)

-- ---- the text by its sign and size
pub text-signed : (f : ℕ) (z : ℤ) (n : ℕ) → n ≡ nat_abs z → cond (lt_z z (pos 0)) (minus ∷ size_text f n) (size_text f n) ≡ fixed_text f z
text-signed f (pos k) n e = rw (le-ltb k 0 (omega arith), e) refl
text-signed f (negsuc k) n e = rw e refl

-- ---- twelve bytes with a fraction at their end, and what stands in front of it
module _ (f n r e : ℕ) (few : f ≤ 6) (small : n ≤ 1000000000) (rest : r ≡ n / 10 ^ f) (ends : e + length (fraction f n) ≡ 12) where
  size-is : size_text f n ≡ written r ++ fraction f n
  unfolding size_text
  size-is =
      ap (λ (l : List ℕ). l ++ fraction f n) (digits-written 9 (n / 10 ^ f) (whole-under f n few small) (omega (arith, whole-under f n few small)))
      ∙ ap (λ (k : ℕ). written k ++ fraction f n) (sym rest)

  size-length : length (size_text f n) ≡ length (written r) + length (fraction f n)
  size-length = ap length size-is ∙ length-append (written r) (fraction f n)

  -- the digits and a sign have room
  pub digits-room : length (written r) + 1 ≤ e
  digits-room = omega (arith, size-length, size-most f n few small)

  module _ (b t : List ℕ) (i : ℕ) (bytes : b ≡ take e (replicate 12 32) ++ fraction f n) (start : i + length (written r) ≡ e) (behind : drop i t ≡ written r ++ drop e b) (before : take i t ≡ take i b) where
    front : b ≡ replicate e 32 ++ fraction f n
    front = bytes ∙ ap (λ (l : List ℕ). l ++ fraction f n) (take-replicate e 12 32 (omega arith))

    begins : i + length (size_text f n) ≡ 12
    begins = omega (arith, size-length)

    some-left : 0 < i
    some-left = omega (arith, digits-room)

    text-behind : drop i t ≡ size_text f n
    text-behind = behind ∙ ap (λ (l : List ℕ). written r ++ drop e l) front ∙ ap (λ (l : List ℕ). written r ++ l) (drop_at (replicate e 32) (fraction f n) e (length-replicate {A = ℕ} e 32)) ∙ sym size-is

    blanks-before : take i t ≡ replicate i 32
    blanks-before =
        let l : i ≤ e = omega arith in
        let m : i ≤ length (replicate {A = ℕ} e 32) = omega (arith, length-replicate {A = ℕ} e 32) in
        before ∙ ap (λ (l : List ℕ). take i l) front ∙ take-append-le i (replicate e 32) (fraction f n) m ∙ take-replicate i e 32 l

    whole : t ≡ replicate i 32 ++ size_text f n
    whole = sym (take-append-drop i t) ∙ ap₂ (λ (a b : List ℕ). a ++ b) blanks-before text-behind

    -- the text without a sign, and with one
    module _ (x : ℤ) (size : n ≡ nat_abs x) where
      pub spelt-plain : lt_z x (pos 0) ≡ false → ◌≡◌ {A = Text 12} (record { bytes = t; blanks = i }) (padded 12 (fixed_text f x))
      spelt-plain s = padded-plain 12 i (size_text f n) t begins whole (lt_z x (pos 0)) t i s refl refl ∙ ap (padded 12) (text-signed f x n size)

      pub spelt-minus : lt_z x (pos 0) ≡ true → ◌≡◌ {A = Text 12} (record { bytes = set t (i - 1) 45; blanks = i - 1 }) (padded 12 (fixed_text f x))
      spelt-minus s = padded-minus 12 i (size_text f n) t begins whole (lt_z x (pos 0)) (set t (i - 1) 45) (i - 1) some-left s refl refl ∙ ap (padded 12) (text-signed f x n size)

-- ---- the number that a text stands for
unpoint_append : (l k : List ℕ) → unpointed (l ++ k) ≡ unpointed l ++ unpointed k
unfolding unpointed
unpoint_append [] k = refl
unpoint_append (c ∷ cs) k = go (eqb c point) (unpoint_append cs k)
  where
    go : (t : Bool) → unpointed (cs ++ k) ≡ unpointed cs ++ unpointed k → cond t (unpointed (cs ++ k)) (c ∷ unpointed (cs ++ k)) ≡ cond t (unpointed cs) (c ∷ unpointed cs) ++ unpointed k
    go true e = e
    go false e = ap (λ (l : List ℕ). c ∷ l) e

-- digits are no points
unpoint_digit : (d : ℕ) → unpointed (digit d ∷ []) ≡ digit d ∷ []
unfolding unpointed
unpoint_digit d = rw (ne_eqb (48 + d) 46 (λ e. omega arith))

unpoint_digits : (f n : ℕ) → unpointed (digits f n) ≡ digits f n
unpoint_digits =
    digits_by (λ n l. unpointed l ≡ l) (λ n. unpoint_digit n)
    (λ n l r. unpoint_append l (digit (n % 10) ∷ []) ∙ ap₂ (λ (a b : List ℕ). a ++ b) r (unpoint_digit (n % 10)))

unpoint_last : (f n : ℕ) → unpointed (last_digits f n) ≡ last_digits f n
unfolding unpointed last_digits
unpoint_last zero n = refl
unpoint_last (suc f) n =
    unpoint_append (last_digits f (n / 10)) (digit (n % 10) ∷ []) ∙ ap₂ (λ (a b : List ℕ). a ++ b) (unpoint_last f (n / 10)) (unpoint_digit (n % 10))

unpoint_decimals : (f n : ℕ) → unpointed (fraction f n) ≡ last_digits f n
unfolding unpointed fraction last_digits
unpoint_decimals zero n = refl
unpoint_decimals (suc f) n = unpoint_last (suc f) n

-- the argument over f: what is left without the last f digits, followed by those digits, is the number again
value-last : (f n : ℕ) → value_of (n / 10 ^ f) (last_digits f n) ≡ n
unfolding value_of last_digits
value-last zero n = div-one n
value-last (suc f) n =
    value-append (n / 10 ^ suc f) (last_digits f (n / 10)) (digit (n % 10) ∷ [])
    ∙ ap (λ (k : ℕ). value_of k (last_digits f (n / 10)) * 10 + (48 + n % 10 - 48)) (tenths f n)
    ∙ ap (λ (k : ℕ). k * 10 + (48 + n % 10 - 48)) (value-last f (n / 10))
    ∙ (let e : n / 10 * 10 + (48 + n % 10 - 48) ≡ n = omega (arith, div-add-mod' n 10) in e)

value-size : (f n : ℕ) → value_of 0 (unpointed (size_text f n)) ≡ n
unfolding size_text
value-size f n =
    ap (λ (l : List ℕ). value_of 0 l) (unpoint_append (natural (n / 10 ^ f)) (fraction f n) ∙ ap₂ (λ (a b : List ℕ). a ++ b) (unpoint_digits 9 (n / 10 ^ f)) (unpoint_decimals f n))
    ∙ value-append 0 (natural (n / 10 ^ f)) (last_digits f n)
    ∙ ap (λ (k : ℕ). value_of k (last_digits f n)) (value-digits 9 (n / 10 ^ f))
    ∙ value-last f n

-- a text without a sign begins with a digit
size_head : (f n : ℕ) → 48 ≤ get_or (size_text f n) 0 0
unfolding size_text
size_head f n = let h = digits_head 9 (n / 10 ^ f) in rw (get_or-append (natural (n / 10 ^ f)) (fraction f n) 0 0 h.0) h.1

pub number-text : (f : ℕ) (z : ℤ) → number_in (fixed_text f z) ≡ z
unfolding number_in
number-text f (pos n) = rw (ne_eqb (get_or (size_text f n) 0 0) 45 (λ e. omega (arith, size_head f n))) (ap pos (value-size f n))
number-text f (negsuc n) = ap (λ (k : ℕ). neg_ℤ (pos k)) (value-size f (suc n))

-- ---- one byte more
module _ (s : List ℕ) (i n : ℕ) (h : i < length s) where
  pub value-point : get_or s i 0 ≡ 46 → value_of n (unpointed (drop i s)) ≡ value_of n (unpointed (drop (i + 1) s))
  unfolding unpointed
  value-point e = rw (add-one, drop-cons s i 0 h, eq-eqb (get_or s i 0) 46 e)

  pub value-digit : (get_or s i 0 ≡ 46 → ⊥) → value_of n (unpointed (drop i s)) ≡ value_of (n * 10 + (get_or s i 0 - 48)) (unpointed (drop (i + 1) s))
  unfolding unpointed value_of
  value-digit e = rw (add-one, drop-cons s i 0 h, ne_eqb (get_or s i 0) 46 e)

pub value-end : (s : List ℕ) (n : ℕ) → value_of n (unpointed (drop (length s) s)) ≡ n
unfolding value_of unpointed
value-end s n = rw (drop_of_length-le s {i = length s} (omega arith))

-- a point leaves the value below the bound of one byte more
pub value-stays : (i n : ℕ) → n + 23 ≤ 23 * 10 ^ i → n + 23 ≤ 23 * 10 ^ (i + 1)
value-stays i n h = omega (arith, pow_more 10 i)

-- ---- the number behind a minus sign, or without one
pub number-minus : (s : List ℕ) → pointwise eqb (take 1 s) (45 ∷ []) ≡ true → number_in s ≡ neg_ℤ (pos (value_of 0 (unpointed (drop 1 s))))
unfolding number_in
number-minus [] h = absurd (true≢false (sym h))
number-minus (c ∷ cs) h = rw ((both_true (eqb c 45) true h).0)

pub number-plain : (s : List ℕ) → pointwise eqb (take 1 s) (45 ∷ []) ≡ false → number_in s ≡ pos (value_of 0 (unpointed s))
unfolding number_in
number-plain [] h = refl
number-plain (c ∷ cs) h = go (eqb c 45) h
  where
    go : (t : Bool) → (t && true) ≡ false → cond t (neg_ℤ (pos (value_of 0 (unpointed cs)))) (pos (value_of 0 (unpointed (c ∷ cs)))) ≡ pos (value_of 0 (unpointed (c ∷ cs)))
    go true k = absurd (true≢false k)
    go false k = refl
