-- The borders in a list of numbers, five for each. Assumes nothing.
use mathlib.Core.Path.{◌≡◌, refl, ap, ◌∙◌}
use mathlib.Core.Bool.{true, false}
use mathlib.Core.List.{List, [], ◌∷◌}
use Prim.Native.Nat.{ℕ, zero, suc, ◌+◌, ◌*◌, ◌/◌, ◌%◌, ◌≤◌, ◌<◌}
use native.Mathlib.Omega.{arith}
use borrow.Author.Tests.{eq-eqb, ne_eqb, lt-ltb, le-ltb, eqb-true, eqb-false, ltb-false, not-false}
use lib.Dec.{ltb, eqb}
use lib.IntN.{ℤ}
use lib.ListN.{length, get_or, drop}
use Rattle.std.proofs.Common.{map}
use Rattle.std.specs.Simd.{first_chunks}
use Rattle.film.specs.declared.Border.{Border}
use Rattle.ranged1d.proofs.Bools.{both_false, or_right}
use Rattle.film.specs.Film.{border_of, borders_of, no_film}
use Rattle.film.specs.Steps.{border_from}

-- five at a time
pub borders_are : (l : List ℤ) → map border_from (first_chunks 5 (length l / 5) l) ≡ borders_of l
unfolding borders_of border_from
borders_are [] = refl
borders_are (a ∷ []) = refl
borders_are (a ∷ (b ∷ [])) = refl
borders_are (a ∷ (b ∷ (p ∷ []))) = refl
borders_are (a ∷ (b ∷ (p ∷ (q ∷ [])))) = refl
borders_are (a ∷ (b ∷ (p ∷ (q ∷ (t ∷ l))))) =
    let m = a ∷ (b ∷ (p ∷ (q ∷ (t ∷ l)))) in
    let e : length m / 5 ≡ suc (length l / 5) = omega arith in
    ap (λ (k : ℕ). map border_from (first_chunks 5 k m)) e ∙ ap (λ (xs : List Border). border_of a b p q t ∷ xs) (borders_are l)

-- the border at an index, and those behind it
pub at_border : (fs : List (List ℤ)) (i : ℕ) → i < length fs → drop i (map border_from fs) ≡ border_from (get_or fs i []) ∷ drop (i + 1) (map border_from fs)
at_border [] i h = absurd (omega arith)
at_border (f ∷ fs) zero h = refl
at_border (f ∷ fs) (suc i) h = let e : suc i + 1 ≡ suc (i + 1) = omega arith in rw e (at_border fs i (omega arith))

-- how many there are
pub borders_long : (l : List ℤ) → length (borders_of l) ≡ length l / 5
unfolding borders_of
borders_long [] = refl
borders_long (a ∷ []) = refl
borders_long (a ∷ (b ∷ [])) = refl
borders_long (a ∷ (b ∷ (p ∷ []))) = refl
borders_long (a ∷ (b ∷ (p ∷ (q ∷ [])))) = refl
borders_long (a ∷ (b ∷ (p ∷ (q ∷ (t ∷ l))))) = omega (arith, borders_long l)

-- ---- 23
module _ (l : List ℤ) where
  pub none-there : length l / 5 ≡ 0 → no_film l ≡ true
  none-there e = rw (borders_long l, eq-eqb (length l / 5) 0 e)

  pub too_many : 16 < length l / 5 → no_film l ≡ true
  too_many h = or_right (eqb (length (borders_of l)) 0) _ (rw (borders_long l, lt-ltb 16 (length l / 5) h))

  pub left_over : (length l % 5 ≡ 0 → ⊥) → no_film l ≡ true
  left_over f = or_right (eqb (length (borders_of l)) 0) _ (or_right (ltb 16 (length (borders_of l))) _ (rw (ne_eqb (length l % 5) 0 f)))

  pub a_film : (length l / 5 ≡ 0 → ⊥) → length l / 5 ≤ 16 → length l % 5 ≡ 0 → no_film l ≡ false
  a_film f h e = rw (borders_long l, ne_eqb (length l / 5) 0 f, le-ltb 16 (length l / 5) h, eq-eqb (length l % 5) 0 e)

  -- what a film's list is
  pub film_is : no_film l ≡ false → (0 < length (borders_of l)) × (length (borders_of l) ≤ 16) × (length l ≡ 5 * length (borders_of l))
  film_is h =
      let t = both_false (eqb (length (borders_of l)) 0) _ h in
      let u = both_false (ltb 16 (length (borders_of l))) _ t.1 in
      let some = eqb-false (length (borders_of l)) 0 t.0 in
      let rest = eqb-true (length l % 5) 0 (not-false (eqb (length l % 5) 0) u.1) in
      (omega (arith, some), ltb-false 16 (length (borders_of l)) u.0, omega (arith, borders_long l, rest))
