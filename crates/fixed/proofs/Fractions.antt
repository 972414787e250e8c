-- Decimals: the last digits of a number behind a point. Assumes nothing.
use mathlib.Core.Path.{◌≡◌, refl, sym, ap, ◌∙◌}
use mathlib.Core.List.{List, [], ◌∷◌, ◌++◌, append_assoc, append-nil}
use Prim.Native.Nat.{ℕ, zero, suc, ◌+◌, ◌-◌, ◌≤◌}
use native.Mathlib.Omega.{arith}
use lib.ListN.{length, set, take, drop, drop_of_length-le, length-drop, length-set}
use lib.Seq.{take-suc-set, take_all}
use borrow.Rule.Slice.PartMut.{mid_of, put_mid, mid_len}
use Rattle.decimal.proofs.LastDigits.{last-length}
use Rattle.fixed.specs.Fixed.{last_digits, fraction}

-- ---- twelve bytes that end in a point and the last digits of n; or, without decimals, as they were
pub put-none : (o : List ℕ) (f n : ℕ) → length o ≡ 12 → f ≡ 0 → o ≡ take 12 o ++ fraction f n
unfolding fraction
put-none o f n t e = rw (e, take_all 12 o (omega arith)) (sym (append-nil o))

pub put-point : (o z : List ℕ) (f n : ℕ) → length o ≡ 12 → (f ≡ 0 → ⊥) → f ≤ 6 → z ≡ last_digits (length (mid_of (11 - f + 1) (12 - (11 - f + 1)) (set o (11 - f) 46))) n
    → put_mid (11 - f + 1) (12 - (11 - f + 1)) (set o (11 - f) 46) z ≡ take (11 - f) o ++ fraction f n
unfolding fraction
put-point o z zero n t h l e = absurd (h refl)
put-point o z (suc f) n t h l e =
    let m = 11 - suc f in
    let s = set o m 46 in
    let a : m + 1 ≡ suc m = omega arith in
    let k : 12 - (m + 1) ≡ suc f = omega arith in
    let w : length s ≡ 12 = length-set o m 46 ∙ t in
    let j : length (mid_of (m + 1) (12 - (m + 1)) s) ≡ suc f = mid_len (m + 1) 12 s (omega (arith, w)) ∙ k in
    let d : drop (12 - (m + 1)) (drop (m + 1) s) ≡ [] = drop_of_length-le (drop (m + 1) s) (omega (arith, w, length-drop (m + 1) s)) in
    ap (λ (u : List ℕ). take (m + 1) s ++ (z ++ u)) d ∙ ap (λ (u : List ℕ). take (m + 1) s ++ u) (append-nil z)
    ∙ ap (λ (i : ℕ). take i s ++ z) a ∙ ap (λ (u : List ℕ). u ++ z) (take-suc-set o m 46 (omega arith))
    ∙ append_assoc (take m o) (46 ∷ []) z ∙ ap (λ (u : List ℕ). take m o ++ (46 ∷ u)) (e ∙ ap (λ (i : ℕ). last_digits i n) j)

pub no-fraction : (f n : ℕ) → f ≡ 0 → length (fraction f n) ≡ 0
unfolding fraction
no-fraction f n e = rw e

pub fraction-length : (f n : ℕ) → (f ≡ 0 → ⊥) → length (fraction f n) ≡ f + 1
unfolding fraction
fraction-length zero n z = absurd (z refl)
fraction-length (suc f) n z = omega (arith, last-length (suc f) n)

pub fraction-most : (f n : ℕ) → length (fraction f n) ≤ f + 1
unfolding fraction
fraction-most zero n = omega arith
fraction-most (suc f) n = omega (arith, last-length (suc f) n)
