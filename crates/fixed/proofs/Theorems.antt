-- Printing and reading undo each other: `Undone` of specs/Theorems, for every f by one argument (`value-last` of Texts). Assumes nothing.
use mathlib.Core.Path.{◌≡◌, refl, sym, ap, ◌∙◌, subst}
use mathlib.Core.Bool.{Bool, true, false, cond, not}
use mathlib.Core.List.{List, [], ◌∷◌, ◌++◌, append-nil}
use mathlib.Core.Logic.{◌⊎◌, inl, inr}
use Prim.Native.Nat.{ℕ, zero, suc, ◌*◌, ◌/◌, ◌%◌, ◌^◌, ◌≤◌, ◌<◌}
use native.Mathlib.Nat.{div-one, div-eq_of_lt, div-le_self, le-div_iff_mul-le}
use native.Mathlib.Omega.{arith}
use borrow.Author.Tests.{lt-ltb, le-ltb, ltb-false, not-false, leb-true}
use lib.Dec.{ltb}
use lib.IntN.{ℤ, pos, negsuc, nat_abs}
use lib.ListN.{length, get_or, take, drop, get_or-append}
use lib.Seq.{take_at}
use Rattle.ranged1d.specs.Answer.{Answer, given, refused, ◌when◌, lowest, held_after}
use Rattle.ranged1d.specs.Admitted.{whole_admitted}
use Rattle.ranged1d.proofs.Answers.{given_is, not-both, all-written}
use Rattle.ranged1d.proofs.Bools.{both_true, le_or}
use Rattle.ranged1d.proofs.Lowest.{given_tests}
use Rattle.decimal.specs.Print.{digit, digits, natural, minus}
use Rattle.decimal.specs.Read.{same_bytes}
use Rattle.decimal.proofs.Digits.{tenth_small, digits-one}
use Rattle.decimal.proofs.Texts.{same_self, same-equal}
use Rattle.decimal.proofs.Reader.{digits_head}
use Rattle.fixed.specs.Fixed.{fraction, size_text, fixed_text, number_in, is_printed, fixed_reasons, fixed_print, fixed_read}
use Rattle.fixed.specs.Theorems.{Undone, Shaped, NoPoint}
use Rattle.fixed.proofs.Texts.{tens_pos, number-text, fixed_most}
use Rattle.decimal.proofs.LastDigits.{last-length}
use Rattle.fixed.proofs.Calls.{print-text, read_by}

module _ (f : ℕ) where
  -- what is printed of an admitted number is read as that number
  reads : f ≤ 6 → (z : ℤ) → whole_admitted z ≡ true → fixed_read (fixed_text f z) f ≡ given z
  reads h z a =
      sym (read_by (fixed_text f z) f h) ∙ rw (number-text f z, a, same_self (fixed_text f z))

  -- what is_printed holds of is what is printed of the number that is given
  printed : (s : List ℕ) (z : ℤ) → fixed_read s f ≡ given z → (f ≤ 6) × (whole_admitted z ≡ true) × (s ≡ fixed_text f z)
  unfolding fixed_read
  printed s z e =
      let t = given_tests (24 when ltb 6 f ∷ 25 when not (is_printed f s) ∷ []) (given (number_in s)) e in
      let b = both_true (whole_admitted (number_in s)) (same_bytes s (fixed_text f (number_in s))) (not-false (is_printed f s) t.0.1.0) in
      let q : number_in s ≡ z = given_is t.1 in
      (ltb-false 6 f t.0.0, subst (λ (y : ℤ). whole_admitted y ≡ true) q b.0, same-equal s (fixed_text f (number_in s)) b.1 ∙ ap (fixed_text f) q)

  print_then_read : (z : ℤ) (old : List ℕ) (n : ℕ) → (fixed_print z f old).0 ≡ given n → fixed_read (take n (fixed_print z f old).1) f ≡ given z
  unfolding fixed_print
  print_then_read z old n e =
      let x = fixed_text f z in
      let t = given_tests (fixed_reasons z f old) (given (length x)) e in
      let size : length x ≡ n = given_is t.1 in
      let held : held_after (lowest (fixed_reasons z f old) (given (length x))) x old ≡ x ++ drop (length x) old = ap (λ (a : Answer ℕ). held_after a x old) e in
      ap (λ (l : List ℕ). fixed_read l f) (ap (λ (l : List ℕ). take n l) held ∙ take_at x (drop (length x) old) n size)
      ∙ reads (ltb-false 6 f t.0.1.0) z (not-false (whole_admitted z) t.0.0)

  read_then_print : (s : List ℕ) (z : ℤ) (old : List ℕ) → fixed_read s f ≡ given z → length s ≤ length old → fixed_print z f old ≡ (given (length s), s ++ drop (length s) old)
  read_then_print s z old e h =
      let p = printed s z e in
      sym (print-text z f old p.1 p.0)
      ∙ sym (all-written (fixed_text f z) old (length s) (ap length (sym p.2)) h)
      ∙ ap (λ (l : List ℕ). (given (length s), l ++ drop (length s) old)) (sym p.2)

  accepted-are : f ≤ 6 → (s : List ℕ) (z : ℤ) → (fixed_read s f ≡ given z → (whole_admitted z ≡ true) × (s ≡ fixed_text f z)) × ((whole_admitted z ≡ true) × (s ≡ fixed_text f z) → fixed_read s f ≡ given z)
  accepted-are h s z =
      (λ e. let p = printed s z e in (p.1, p.2), λ p. ap (λ (l : List ℕ). fixed_read l f) p.1 ∙ reads h z p.0)

  others : f ≤ 6 → (s : List ℕ) → (fixed_read s f ≡ refused 25 → (z : ℤ) → whole_admitted z ≡ true → s ≡ fixed_text f z → ⊥) × (((z : ℤ) → whole_admitted z ≡ true → s ≡ fixed_text f z → ⊥) → fixed_read s f ≡ refused 25)
  others h s = (λ e z a q. not-both (sym ((accepted-are h s z).1 (a, q)) ∙ e), λ other. sym (read_by s f h) ∙ go other (is_printed f s) refl)
    where
      go : ((z : ℤ) → whole_admitted z ≡ true → s ≡ fixed_text f z → ⊥) → (t : Bool) → is_printed f s ≡ t → cond t (given (number_in s)) (refused 25) ≡ refused 25
      go other true e = let b = both_true (whole_admitted (number_in s)) (same_bytes s (fixed_text f (number_in s))) e in absurd (other (number_in s) b.0 (same-equal s (fixed_text f (number_in s)) b.1))
      go other false e = refl

pub undone : (f : ℕ) → Undone f
undone f = record { print_read = print_then_read f; read_print = read_then_print f; accepts = accepted-are f; refuses = others f }

-- ---- the shape
below : (f n : ℕ) → n < 10 ^ f → size_text f n ≡ digit 0 ∷ fraction f n
unfolding size_text
below f n h = ap (λ (q : ℕ). natural q ++ fraction f n) (div-eq_of_lt h) ∙ ap (λ (l : List ℕ). l ++ fraction f n) (digits-one 9 0 (omega arith))

-- the digits of a number that is not 0 begin with none that is
head_some : (f n : ℕ) → 0 < n → n < 10 ^ suc f → 49 ≤ get_or (digits f n) 0 0
unfolding digits
head_some zero n h s = omega arith
head_some (suc f) n h s = go (le_or 10 n) (head_some f (n / 10))
  where
    go : (10 ≤ n) ⊎ (n < 10) → (0 < n / 10 → n / 10 < 10 ^ suc f → 49 ≤ get_or (digits f (n / 10)) 0 0) → 49 ≤ get_or (digits (suc f) n) 0 0
    go (inl l) r =
        let q : 0 < n / 10 = omega arith in
        rw (le-ltb n 10 l, get_or-append (digits f (n / 10)) (digit (n % 10) ∷ []) 0 0 (digits_head f (n / 10)).0) (r q (tenth_small n (suc f) s))
    go (inr l) r = rw (lt-ltb n 10 l) (omega arith)

from : (f n : ℕ) → 10 ^ f ≤ n → n ≤ 1000000000 → digit 1 ≤ get_or (size_text f n) 0 0
unfolding size_text
from f n h s =
    let q = n / 10 ^ f in
    let e : 1 * 10 ^ f ≤ n = omega arith in
    let some : 1 ≤ n / 10 ^ f = (le-div_iff_mul-le (tens_pos f)).1 e in
    let small : q < 10 ^ 10 = omega (arith, div-le_self n (10 ^ f)) in
    rw (get_or-append (natural q) (fraction f n) 0 0 (digits_head 9 q).0) (head_some 9 q some small)

pub shaped : (f : ℕ) → Shaped f
shaped f = record {
  below_one = below f;
  from_one = from f;
  after_point = last-length f;
  twelve_enough = λ h z a. fixed_most f z h (leb-true (nat_abs z) 1000000000 a);
}

whole : (n : ℕ) → size_text 0 n ≡ natural n
unfolding size_text fraction
whole n = append-nil (natural (n / 1)) ∙ ap natural (div-one n)

pub no_point : NoPoint
no_point (pos n) = whole n
no_point (negsuc n) = ap (λ (l : List ℕ). minus ∷ l) (whole (suc n))
