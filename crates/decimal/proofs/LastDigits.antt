-- The last digits of a number, written from the right. Assumes nothing.
use mathlib.Core.Path.{◌≡◌, refl, sym, ap, ◌∙◌}
use mathlib.Core.List.{List, [], ◌∷◌, ◌++◌, append_assoc, append-nil}
use mathlib.Core.Logic.{◌⊎◌, inl, inr}
use Prim.Native.Nat.{ℕ, zero, suc, ◌+◌, ◌-◌, ◌/◌, ◌%◌, ◌^◌, ◌≤◌, ◌<◌}
use native.Mathlib.Nat.{pow-succ', div-div-eq-div-mul, div-one}
use native.Mathlib.Omega.{arith}
use lib.ListN.{length, get_or, set, take, replicate, length-append, replicate-append-replicate}
use Rattle.std.proofs.lemmas.List.{length-take-le}
use Rattle.std.proofs.lemmas.Grind.{pow_more}
use lib.Seq.{take-suc, set_at, take_all}
use Rattle.ranged1d.proofs.Bools.{le_or}
use borrow.Author.Tests.{le-ltb}
use Rattle.decimal.specs.Print.{digit, digits, last_digits, filled_with}
use Rattle.decimal.proofs.Digits.{tenth_small, digits-one}

pub last-length : (f n : ℕ) → length (last_digits f n) ≡ f
unfolding last_digits
last-length zero n = refl
last-length (suc f) n = length-append (last_digits f (n / 10)) (digit (n % 10) ∷ []) ∙ (let e = last-length f (n / 10) in omega arith)

-- without its last f + 1 digits a number is what its tenth is without its last f
pub tenths : (f n : ℕ) → n / 10 ^ suc f ≡ n / 10 / 10 ^ f
tenths f n = ap (λ (k : ℕ). n / k) (pow-succ' 10 f) ∙ sym (div-div-eq-div-mul n 10 (10 ^ f))

-- one more of the last digits stands in front of the others
last-front : (f n : ℕ) → last_digits (suc f) n ≡ digit (n / 10 ^ f % 10) ∷ last_digits f n
unfolding last_digits
last-front zero n = ap (λ (k : ℕ). digit (k % 10) ∷ []) (sym (div-one n))
last-front (suc f) n = ap (λ (l : List ℕ). l ++ (digit (n % 10) ∷ [])) (last-front f (n / 10)) ∙ ap (λ (k : ℕ). digit (k % 10) ∷ last_digits (suc f) n) (sym (tenths f n))

-- what is left of n without its last digits
pub rest-none : (f n : ℕ) → f ≡ 0 → n ≡ n / 10 ^ f
rest-none f n e = rw e (sym (div-one n))

rest-one : (f n : ℕ) → n / 10 ^ f / 10 ≡ n / 10 ^ (f + 1)
rest-one f n = div-div-eq-div-mul n (10 ^ f) 10 ∙ ap (λ (k : ℕ). n / k) (sym (pow_more 10 f))

-- a byte in front of what stands at the end
pub put-front : (o l : List ℕ) (m d : ℕ) → m < length o → set (take (m + 1) o ++ l) m d ≡ take m o ++ (d ∷ l)
put-front o l m d h =
    let e : m + 1 ≡ suc m = omega arith in
    rw (e, take-suc o m 0 h, append_assoc (take m o) (get_or o m 0 ∷ []) l) (set_at (take m o) (get_or o m 0) l d m (length-take-le m o (omega arith)))

-- ---- bytes up to the place i, and the last digits of n behind it; what is left of n
abbrev pub Put : List ℕ → ℕ → ℕ → List ℕ → ℕ → Type 0
Put o n i t r = (t ≡ take i o ++ last_digits (length o - i) n) × (r ≡ n / 10 ^ (length o - i))

pub put-start : (o : List ℕ) (n : ℕ) → Put o n (length o) o n
unfolding last_digits
put-start o n =
    let z : length o - length o ≡ 0 = omega arith in
    (rw z (sym (append-nil (take (length o) o) ∙ take_all (length o) o (omega arith))), rest-none _ n z)

pub put-more : (o : List ℕ) (n i r : ℕ) (t : List ℕ) → 0 < i → i ≤ length o → Put o n i t r → Put o n (i - 1) (set t (i - 1) (48 + r % 10)) (r / 10)
put-more o n i r t s l p =
    let k = length o - i in
    let a : i ≡ i - 1 + 1 = omega arith in
    let b : length o - (i - 1) ≡ suc k = omega arith in
    let c : suc k ≡ k + 1 = omega arith in (
      ap (λ (u : List ℕ). set u (i - 1) (48 + r % 10)) (p.0 ∙ ap (λ (j : ℕ). take j o ++ last_digits k n) a)
          ∙ put-front o (last_digits k n) (i - 1) (48 + r % 10) (omega arith)
          ∙ ap (λ (q : ℕ). take (i - 1) o ++ (digit (q % 10) ∷ last_digits k n)) p.1
          ∙ ap (λ (u : List ℕ). take (i - 1) o ++ u) (sym (last-front k n) ∙ ap (λ (j : ℕ). last_digits j n) (sym b)),
      ap (λ (q : ℕ). q / 10) p.1 ∙ rest-one k n ∙ ap (λ (j : ℕ). n / 10 ^ j) (sym c ∙ sym b),
    )

-- ---- a number that has no more digits: its digits, and zeros in front of them
none-left : (f : ℕ) → last_digits f 0 ≡ replicate f 48
unfolding last_digits
none-left zero = refl
none-left (suc f) = ap (λ (l : List ℕ). l ++ (48 ∷ [])) (none-left f) ∙ replicate-append-replicate {A = ℕ} f 1 48 ∙ ap (λ (k : ℕ). replicate k 48) (let e : f + 1 ≡ suc f = omega arith in e)

one-filled : (g f n : ℕ) → n < 10 → last_digits (suc f) n ≡ filled_with 48 (suc f) (digits g n)
unfolding last_digits
one-filled g f n s =
    let a : n / 10 ≡ 0 = omega arith in
    let b : n % 10 ≡ n = omega arith in
    let c : suc f - 1 ≡ f = omega arith in
    rw (a, b, none-left f, digits-one g n (omega arith), c) refl

pub last-filled : (g f n : ℕ) → n < 10 ^ suc g → n < 10 ^ suc f → last_digits (suc f) n ≡ filled_with 48 (suc f) (digits g n)
unfolding last_digits digits
last-filled zero f n h l = one-filled zero f n h
last-filled (suc g) zero n h l = one-filled (suc g) zero n l
last-filled (suc g) (suc f) n h l = go (le_or 10 n) (last-filled g f (n / 10) (tenth_small n (suc g) h) (tenth_small n (suc f) l))
  where
    k : List ℕ
    k = digits g (n / 10)

    d : List ℕ
    d = digit (n % 10) ∷ []

    c : suc (suc f) - length (k ++ d) ≡ suc f - length k
    c = rw (length-append k d) (omega arith)

    go : (10 ≤ n) ⊎ (n < 10) → last_digits (suc f) (n / 10) ≡ filled_with 48 (suc f) k → last_digits (suc (suc f)) n ≡ filled_with 48 (suc (suc f)) (digits (suc g) n)
    go (inr m) r = one-filled (suc g) (suc f) n m
    go (inl m) r =
        rw (le-ltb n 10 m)
        (ap (λ (u : List ℕ). u ++ d) r ∙ append_assoc (replicate (suc f - length k) 48) k d ∙ ap (λ (j : ℕ). replicate j 48 ++ (k ++ d)) (sym c))
