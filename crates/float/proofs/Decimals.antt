-- The rule's decimals are those that the code keeps: the last p digits of d, cut where the number d itself is divided by ten. Assumes nothing.
use mathlib.Core.Path.{◌≡◌, refl, sym, ap, ◌∙◌}
use mathlib.Core.Bool.{Bool, true, false, cond}
use mathlib.Core.List.{List, [], ◌∷◌, ◌++◌}
use Prim.Native.Nat.{ℕ, zero, suc, ◌+◌, ◌/◌, ◌%◌, ◌^◌, ◌≤◌, ◌<◌}
use native.Mathlib.Nat.{pow-le-pow_right, zero-lt-suc}
use native.Mathlib.Omega.{arith}
use lib.Dec.{eqb}
use borrow.Author.Tests.{eqb-true, eqb-false, ne_eqb}
use Rattle.decimal.specs.Print.{last_digits}
use Rattle.decimal.proofs.LastDigits.{last-filled}
use Rattle.float.specs.Text.{ahead, without_zeros, decimals}
use Rattle.float.specs.Steps.{Taken, trimmed, parts}

-- ---- zeros at the end of a text
pub zero_dropped : (t : List ℕ) → without_zeros (t ++ (48 ∷ [])) ≡ without_zeros t
unfolding without_zeros
zero_dropped [] = refl
zero_dropped (c ∷ t) = ap (ahead c) (zero_dropped t)

ahead-some : (x : ℕ) (t : List ℕ) (c : ℕ) → ahead x (t ++ (c ∷ [])) ≡ x ∷ (t ++ (c ∷ []))
ahead-some x [] c = refl
ahead-some x (d ∷ t) c = refl

pub last-kept : (t : List ℕ) (c : ℕ) → eqb c 48 ≡ false → without_zeros (t ++ (c ∷ [])) ≡ t ++ (c ∷ [])
unfolding without_zeros
last-kept [] c h = rw h
last-kept (x ∷ t) c h = ap (ahead x) (last-kept t c h) ∙ ahead-some x t c

-- ---- both cuts agree
abbrev last_of : Taken → List ℕ
last_of t = last_digits t.places t.decimals

cut : (s : Bool) (w p d : ℕ) → without_zeros (last_digits p d) ≡ last_of (trimmed s w p d)
unfolding without_zeros trimmed last_digits
cut s w zero d = refl
cut s w (suc p) d = go (eqb (d % 10) 0) refl (cut s w p (d / 10))
  where
    go : (b : Bool) → eqb (d % 10) 0 ≡ b → without_zeros (last_digits p (d / 10)) ≡ last_of (trimmed s w p (d / 10))
        → without_zeros (last_digits p (d / 10) ++ ((48 + d % 10) ∷ [])) ≡ last_of (cond b (trimmed s w p (d / 10)) (parts s w (suc p) d))
    go true e r = ap (λ (c : ℕ). without_zeros (last_digits p (d / 10) ++ ((48 + c) ∷ []))) (eqb-true (d % 10) 0 e) ∙ zero_dropped (last_digits p (d / 10)) ∙ r
    go false e r =
        let z = eqb-false (d % 10) 0 e in
        last-kept (last_digits p (d / 10)) (48 + d % 10) (ne_eqb (48 + d % 10) 48 (λ q. z (omega arith)))

pub decimals-kept : (s : Bool) (w p d : ℕ) → p ≤ 10 → d < 10 ^ p → decimals p d ≡ last_of (trimmed s w p d)
unfolding decimals without_zeros last_digits
decimals-kept s w zero d k h = cut s w zero d
decimals-kept s w (suc p) d k h =
    let m : 10 ^ suc p ≤ 10 ^ 10 = pow-le-pow_right {n = 10} (zero-lt-suc 9) {i = suc p} {j = 10} k in
    let l : d < 10 ^ 20 = omega arith in
    ap without_zeros (sym (last-filled 19 p d l h)) ∙ cut s w (suc p) d
