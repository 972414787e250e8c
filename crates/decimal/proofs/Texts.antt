-- Texts: when two are the same, and that the value of a short one stays small. Assumes nothing.
use mathlib.Core.Path.{◌≡◌, refl, sym, ap₂, subst}
use mathlib.Core.Bool.{Bool, true, false, true≢false, ◌&&◌}
use mathlib.Core.List.{List, [], ◌∷◌}
use Prim.Native.Nat.{ℕ, ◌+◌, ◌-◌, ◌*◌, ◌^◌, ◌≤◌, ◌<◌}
use native.Mathlib.Omega.{arith}
use native.Mathlib.Numerals.{add-one}
use native.Mathlib.Nat.{pow-le-pow_right}
use Rattle.std.proofs.lemmas.Grind.{pow_more}
use lib.Dec.{T, eqb}
use borrow.Author.Tests.{eq-eqb, eqb-true}
use lib.ListN.{length, get_or, drop, drop_of_length-le}
use lib.Seq.{drop-cons}
use Rattle.decimal.specs.Read.{value_of, same_bytes}

-- ---- the same text
pub same_self : (l : List ℕ) → same_bytes l l ≡ true
unfolding same_bytes
same_self [] = refl
same_self (x ∷ xs) = rw (eq-eqb x x refl, same_self xs)

pub same-equal : (l k : List ℕ) → same_bytes l k ≡ true → l ≡ k
unfolding same_bytes
same-equal [] [] e = refl
same-equal [] (y ∷ ys) e = absurd (subst T (sym e) tt)
same-equal (x ∷ xs) [] e = absurd (subst T (sym e) tt)
same-equal (x ∷ xs) (y ∷ ys) e = go (eqb x y) refl e (same-equal xs ys)
  where
    go : (t : Bool) → eqb x y ≡ t → (t && same_bytes xs ys) ≡ true → (same_bytes xs ys ≡ true → xs ≡ ys) → x ∷ xs ≡ y ∷ ys
    go true q e r = ap₂ (λ (z : ℕ) (zs : List ℕ). z ∷ zs) (eqb-true x y q) (r e)
    go false q e r = absurd (subst T (sym e) tt)

pub same_yes : (l k : List ℕ) → l ≡ k → same_bytes l k ≡ true
same_yes l k e = rw e (same_self k)

pub same_no : (l k : List ℕ) → (l ≡ k → ⊥) → same_bytes l k ≡ false
same_no l k f = go (same_bytes l k) refl
  where
    go : (t : Bool) → same_bytes l k ≡ t → t ≡ false
    go true e = absurd (f (same-equal l k e))
    go false e = refl

-- a test that is true exactly where they are equal
pub same_is : (r : Bool) (l k : List ℕ) → (r ≡ true → l ≡ k) → (l ≡ k → r ≡ true) → r ≡ same_bytes l k
same_is true l k f g = sym (same_yes l k (f refl))
same_is false l k f g = sym (same_no l k (λ e. true≢false (sym (g e))))

-- ---- the value of i bytes, each at most 207 away from the byte of 0
pub value-more : (i n d : ℕ) → d ≤ 207 → n + 23 ≤ 23 * 10 ^ i → n * 10 + d + 23 ≤ 23 * 10 ^ (i + 1)
value-more i n d l h = omega (arith, pow_more 10 i)

pub value-below : (i n : ℕ) → i ≤ 12 → n + 23 ≤ 23 * 10 ^ i → n ≤ 23_000_000_000_000
value-below i n l h = let p : 10 ^ i ≤ 10 ^ 12 = pow-le-pow_right (omega arith) l in omega arith

pub value_step : (s : List ℕ) (i n : ℕ) → i < length s → value_of n (drop i s) ≡ value_of (n * 10 + (get_or s i 0 - 48)) (drop (i + 1) s)
unfolding value_of
value_step s i n h = rw (add-one, drop-cons s i 0)

pub value-end : (s : List ℕ) (n : ℕ) → value_of n (drop (length s) s) ≡ n
unfolding value_of
value-end s n = rw (drop_of_length-le s {i = length s} (omega arith))
