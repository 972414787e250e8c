-- The rule of `print_scientific`, case by case. Assumes nothing.
use mathlib.Core.Path.{◌≡◌, refl, sym, ap, ◌∙◌}
use mathlib.Core.Bool.{true, false, ◌||◌, ◌&&◌}
use mathlib.Core.List.{List, [], ◌∷◌, ◌++◌, append_assoc}
use Prim.Native.Nat.{ℕ, suc, ◌+◌, ◌-◌, ◌≤◌}
use native.Mathlib.Omega.{arith}
use lib.Dec.{ltb, leb}
use lib.IntN.{nat_abs}
use lib.ListN.{length, get_or, drop, set, length-append}
use lib.Seq.{drop-drop, drop-cons, set_at}
use lib.Ieee.{Float, binary64, of_bits, mul, div, lt, eq}
use borrow.Author.Tests.{le-leb}
use Rattle.ranged1d.specs.Answer.{Answer, refused, list_written}
use Rattle.ranged1d.proofs.Answers.{all-written}
use Rattle.decades.specs.Powers.{power}
use Rattle.decades.specs.Decade.{decade_index}
use Rattle.decades.proofs.Table.{entry}
use Rattle.decimal.specs.Print.{decimal}
use Rattle.float.specs.Shorten.{shorten, tolerance, ten}
use Rattle.float.specs.Text.{size_of, nought, shown_of, plotters_text, label_of}
use Rattle.float.specs.Scientific.{zero_float, letter, comes_to_ten, table_index, scale_of, exponent_of, mantissa_of, scientific_text, prefers, scientific_of}
use Rattle.float.specs.Calls.{printable, too_small, label_scientific}
use Rattle.float.specs.Steps.{decimals_for}
use borrow.Rule.Slice.PartMut.{put_mid}
use Rattle.float.proofs.Cases.{stops}
use Rattle.float.proofs.Lists.{put_behind}
use Rattle.float.proofs.Scales.{tolerance-five}

-- ---- the refusals
module _ (n : Float) (h e : ℕ) (old : List ℕ) where
  pub scientific_stops : (k : ℕ) → ◌≡◌ {A = Answer ℕ} (refused k) (decimals_for n h e) → ◌≡◌ {A = Answer ℕ × List ℕ} (refused k, old) (label_scientific n h e old)
  unfolding decimals_for label_scientific
  scientific_stops k q = stops k h (printable n) (leb h 10 && leb e 20) _ (scientific_of n h e) old q

  module _ (a : printable n ≡ true) (l : h ≤ 10) (k : e ≤ 20) where
    pub stops_28 : too_small n ≡ true → ◌≡◌ {A = Answer ℕ × List ℕ} (refused 28, old) (label_scientific n h e old)
    unfolding label_scientific
    stops_28 t = rw (a, le-leb h 10 l, le-leb e 20 k, t)

    pub goes_on_lem : too_small n ≡ false → label_scientific n h e old ≡ list_written (scientific_of n h e) old
    unfolding label_scientific
    goes_on_lem t = rw (a, le-leb h 10 l, le-leb e 20 k, t)

-- ---- zero, and what is too small
pub zero_large : (n : Float) → eq n zero_float ≡ true → too_small n ≡ false
unfolding too_small
zero_large n z = rw z

pub small_is : (n : Float) → eq n zero_float ≡ false → too_small n ≡ lt (size_of n) (power 0)
unfolding too_small
small_is n z = rw z

-- the literal of the code is the table's first entry
pub first-power : of_bits binary64 14067255587423757 ≡ power 0
first-power = entry 0 (omega arith)

-- ---- which text it is
module _ (n : Float) (h e : ℕ) where
  pub text_zero : eq n zero_float ≡ true → scientific_of n h e ≡ nought ∷ []
  unfolding scientific_of
  text_zero z = rw z

  module _ (z : eq n zero_float ≡ false) where
    pub text-short : ltb (nat_abs (exponent_of n)) 3 ≡ true → scientific_of n h e ≡ label_of n h e
    unfolding scientific_of
    text-short s = rw (z, s)

    module _ (s : ltb (nat_abs (exponent_of n)) 3 ≡ false) where
      pub text_long : prefers n h e ≡ true → scientific_of n h e ≡ scientific_text n e
      unfolding scientific_of
      text_long p = rw (z, s, p)

      pub text-kept : prefers n h e ≡ false → scientific_of n h e ≡ label_of n h e
      unfolding scientific_of
      text-kept p = rw (z, s, p)

-- ---- the power
module _ (x : Float) where
  pub scale_more : comes_to_ten x ≡ true → (table_index x ≡ decade_index x + 1) × (scale_of x ≡ mul binary64 (power (decade_index x)) ten)
  unfolding table_index scale_of
  scale_more h = (rw h, rw h)

  pub scale_same : comes_to_ten x ≡ false → (table_index x ≡ decade_index x) × (scale_of x ≡ power (decade_index x))
  unfolding table_index scale_of
  scale_same h = (rw h, rw h)

-- the mantissa, as the code shortens it
pub mantissa_is : (n : Float) → shorten 5 (div binary64 n (scale_of (size_of n))) (tolerance 5) ≡ mantissa_of n
unfolding mantissa_of
mantissa_is n = ap (shorten 5 (div binary64 n (scale_of (size_of n)))) tolerance-five

-- ---- the letter and the exponent behind a text
pub held : (b old y : List ℕ) (a : Answer ℕ) → length b ≤ length old → ◌≡◌ {A = Answer ℕ × List ℕ} (a, y) (list_written b old) → y ≡ b ++ drop (length b) old
held b old y a h e = ap (λ (p : Answer ℕ × List ℕ). p.1) (e ∙ sym (all-written b old (length b) refl h))

pub long_stored : (b x y l z : List ℕ) (n k : ℕ) → length (b ++ (letter ∷ x)) ≤ length l → y ≡ b ++ drop (length b) l → n ≡ length b → z ≡ x → k ≡ n + 1 + length x - (n + 1)
    → put_mid (n + 1) k (set y n letter) z ≡ (b ++ (letter ∷ x)) ++ drop (length (b ++ (letter ∷ x))) l
long_stored b x y l z n k h e f g i =
    ap (λ (r : List ℕ). put_mid (n + 1) k r z) stored
    ∙ put_behind (b ++ (letter ∷ [])) (drop (suc n) l) z (n + 1) k (omega (arith, f, length-append b (letter ∷ []))) (omega (arith, i, ap length g))
    ∙ ap (λ (r : List ℕ). r ++ drop k (drop (suc n) l)) (append_assoc b (letter ∷ []) z ∙ ap (λ (r : List ℕ). b ++ (letter ∷ r)) g)
    ∙ ap (λ (r : List ℕ). (b ++ (letter ∷ x)) ++ r) (drop-drop k (suc n) l ∙ ap (λ (j : ℕ). drop j l) (omega (arith, f, i, long)))
  where
    long : length (b ++ (letter ∷ x)) ≡ length b + suc (length x)
    long = length-append b (letter ∷ x)

    stored : set y n letter ≡ (b ++ (letter ∷ [])) ++ drop (suc n) l
    stored =
        ap (λ (r : List ℕ). set r n letter) (e ∙ ap (λ (j : ℕ). b ++ drop j l) (sym f) ∙ ap (λ (r : List ℕ). b ++ r) (drop-cons l n 0 (omega (arith, f, long))))
        ∙ set_at b (get_or l n 0) (drop (suc n) l) letter n (sym f)
        ∙ sym (append_assoc b (letter ∷ []) (drop (suc n) l))

-- ---- the choice, and the text that is written
module _ (n : Float) (h e : ℕ) where
  pub prefers_is : (a b : ℕ) (v : Float) → a ≡ length (scientific_text n e) → b ≡ length (plotters_text n h e) → v ≡ (shorten h n (tolerance h)).value
      → (ltb (a + 1) b || eq v zero_float) ≡ prefers n h e
  unfolding prefers
  prefers_is a b v p q r = rw (p, q, r)

  pub text_is : (b d : List ℕ) → b ≡ shown_of (mantissa_of n) e → d ≡ decimal (exponent_of n) → b ++ (letter ∷ d) ≡ scientific_text n e
  unfolding scientific_text
  text_is b d p q = rw (p, q)

  pub text_length_is : (i j : ℕ) (b d : List ℕ) → i ≡ length b → j ≡ length d → b ≡ shown_of (mantissa_of n) e → d ≡ decimal (exponent_of n) → i + 1 + j ≡ length (scientific_text n e)
  text_length_is i j b d p q r s = omega (arith, length-append b (letter ∷ d), ap length (text_is b d r s))
