-- The searches of lent lists, return by return. Assumes nothing.
use mathlib.Core.Path.{◌≡◌, refl, sym, subst, ◌∙◌}
use mathlib.Core.Bool.{Bool, true, false, ◌&&◌, and-false, true≢false}
use mathlib.Core.Logic.{inl, inr}
use lib.Dec.{T}
use Rattle.std.proofs.lemmas.Float.{le_refl, lt_irrefl, lt-or-eq, T_from_false}
use mathlib.Core.List.{List, [], ◌∷◌}
use Prim.Native.Nat.{ℕ, suc, ◌-◌, ◌<◌}
use native.Mathlib.Omega.{arith}
use borrow.Author.Tests.{lt-ltb}
use lib.IntN.{ℤ, pos}
use lib.ListN.{length, get_or}
use lib.Signed.{lt_z}
use lib.Ieee as Ieee
use lib.Ieee.{Float, nan, inf, fin}
use Rattle.ranged1d.specs.Answer.{Answer, none, refused}
use Rattle.ranged1d.specs.Admitted.{whole_admitted}
use Rattle.ranged1d.specs.Numbers.{every}
use Rattle.ranged1d.proofs.Whole.{same_yes}
use Rattle.search.specs.Search.{Numbers, wholes, reals, best, search}
use Rattle.search.specs.Lists.{toward, ascends, searchable, whole_search, real_search}
use Rattle.search.specs.Settled.{settled, settled_nan}
use Rattle.search.specs.Steps.{rises_first, PlaceOf}
use Rattle.search.specs.declared.RoundingMethod.{RoundingMethod}
use Rattle.search.specs.declared.RoundingMethod.TheVariants.{Exact, Ceil, Floor, Round}
use Rattle.search.proofs.Best.{best_none}
use Rattle.search.proofs.Orders.{Order, way, between-toward}
use Rattle.search.proofs.WholeOrder.{whole-order, whole-between}
use Rattle.search.proofs.Settles.{settles}
use Rattle.search.proofs.Lists.{sorted, ordinary, searchable-one, searchable_is, searchable_own, ends}

-- ---- a list that can be searched, by the target's place in it
module _ {A : Type 0} (num : Numbers A) (o : Order A num.less num.equal) where
  pub searched_ascends : (l : List A) (r : Bool) → r ≡ rises_first num.less l → searchable num l ≡ true → ascends (toward r num.less) l ≡ true
  searched_ascends [] r e s = refl
  searched_ascends (x ∷ []) r e s = refl
  searched_ascends (x ∷ (y ∷ ys)) r e s = subst (λ (b : Bool). ascends (toward b num.less) (x ∷ (y ∷ ys)) ≡ true) (sym e) (sym (searchable_is num o (x ∷ (y ∷ ys)) (λ q. omega (arith, q))) ∙ s)

  pub found : (rises : Bool) (l : List A) (t : A) (method : RoundingMethod) (i : ℕ) (x y : A)
      → rises ≡ rises_first num.less l → searchable num l ≡ true → num.equal t t ≡ true
      → PlaceOf (toward rises num.less) l t t i → ((j : ℕ) → suc j ≡ i → x ≡ get_or l j t) → y ≡ get_or l i t
      → settled num method rises (length l) i x t y ≡ search num t method l
  found rises l t method i x y r s self p xi yi =
      sym (settles num t o rises method l i x y (sorted (way o rises) t l (searched_ascends l rises r s)) (ordinary num.equal t l (searchable_own num o l s)) self p (λ h. yi) xi)

-- ---- whole lists
pub whole-searchable : (l : List ℤ) → searchable wholes l ≡ ascends (toward (rises_first lt_z l) lt_z) l
whole-searchable [] = searchable_is wholes whole-order [] (λ e. omega (arith, e))
whole-searchable (x ∷ []) = sym (searchable-one wholes whole-order (x ∷ []) x (omega arith) (omega arith) refl) ∙ same_yes x x refl
whole-searchable (x ∷ (y ∷ ys)) = searchable_is wholes whole-order (x ∷ (y ∷ ys)) (λ e. omega (arith, e))

-- what is admitted reaches from one number to another, so that the first and the last entry tell of all
pub whole-ends : (l : List ℤ) → (length l ≡ 0 → ⊥) → searchable wholes l ≡ true → every whole_admitted l ≡ (whole_admitted (get_or l 0 (pos 0)) && whole_admitted (get_or l (length l - 1) (pos 0)))
whole-ends l h s =
    let r = rises_first lt_z l in
    ends (way whole-order r) (pos 0) whole_admitted (between-toward r (whole-between 1_000_000_000)) l h (sym (whole-searchable l) ∙ s)

module _ (l : List ℤ) (t : ℤ) (method : RoundingMethod) where
  pub whole_entry_refused : every whole_admitted l ≡ false → ◌≡◌ {A = Answer ℕ} (refused 1) (whole_search l t method)
  unfolding whole_search
  whole_entry_refused h = rw h refl

  pub whole_target_refused : whole_admitted t ≡ false → ◌≡◌ {A = Answer ℕ} (refused 1) (whole_search l t method)
  unfolding whole_search
  whole_target_refused h = rw (h, and-false (every whole_admitted l)) refl

  module _ (e : every whole_admitted l ≡ true) (a : whole_admitted t ≡ true) where
    pub whole_order_refused : searchable wholes l ≡ false → ◌≡◌ {A = Answer ℕ} (refused 8) (whole_search l t method)
    unfolding whole_search
    whole_order_refused s = rw (e, a, s) refl

    pub whole_answered : searchable wholes l ≡ true → search wholes t method l ≡ whole_search l t method
    unfolding whole_search
    whole_answered s = rw (e, a, s) refl

-- ---- real lists
module _ (l : List Float) (method : RoundingMethod) where
  pub real_order_refused : (t : Float) → searchable reals l ≡ false → ◌≡◌ {A = Answer ℕ} (refused 8) (real_search l t method)
  unfolding real_search
  real_order_refused t s = rw s refl

  pub real_answered : (t : Float) → searchable reals l ≡ true → Ieee.eq t t ≡ true → search reals t method l ≡ real_search l t method
  unfolding real_search
  real_answered t s e = rw (s, e) refl

-- a NaN equals no entry
equals_no_nan : (x : Float) → Ieee.eq x nan ≡ false
unfolding Ieee.eq
equals_no_nan nan = refl
equals_no_nan (inf s) = refl
equals_no_nan (fin s m e) = refl

nan_itself : Ieee.eq nan nan ≡ false
nan_itself = equals_no_nan nan

nan_missed : (l : List Float) → best (λ x. Ieee.eq x nan) (λ x y. false) l ≡ none
nan_missed l = best_none (λ x. Ieee.eq x nan) (λ x y. false) nan l (λ k h. equals_no_nan (get_or l k nan))

pub nan_answered : (method : RoundingMethod) (l : List Float) → searchable reals l ≡ true → settled_nan method (length l) ≡ real_search l nan method
unfolding real_search settled_nan
nan_answered Exact [] s = rw (s, nan_itself) refl
nan_answered Ceil [] s = rw (s, nan_itself) refl
nan_answered Floor [] s = rw (s, nan_itself) refl
nan_answered Round [] s = rw (s, nan_itself) refl
nan_answered Exact (x ∷ xs) s = let n : 0 < length (x ∷ xs) = omega arith in rw (s, nan_itself, lt-ltb 0 (length (x ∷ xs)) n, nan_missed (x ∷ xs)) refl
nan_answered Ceil (x ∷ xs) s = let n : 0 < length (x ∷ xs) = omega arith in rw (s, nan_itself, lt-ltb 0 (length (x ∷ xs)) n) refl
nan_answered Floor (x ∷ xs) s = let n : 0 < length (x ∷ xs) = omega arith in rw (s, nan_itself, lt-ltb 0 (length (x ∷ xs)) n) refl
nan_answered Round (x ∷ xs) s = let n : 0 < length (x ∷ xs) = omega arith in rw (s, nan_itself, lt-ltb 0 (length (x ∷ xs)) n) refl

-- the test for a NaN, and what does not meet it
pub is_the_nan : (t : Float) → Ieee.is_nan t ≡ true → t ≡ nan
unfolding Ieee.is_nan
is_the_nan nan h = refl
is_the_nan (inf s) h = absurd (true≢false (sym h))
is_the_nan (fin s m e) h = absurd (true≢false (sym h))

pub equals_itself : (t : Float) → Ieee.is_nan t ≡ false → Ieee.eq t t ≡ true
equals_itself t h = elim (lt-or-eq t t (le_refl t (T_from_false (Ieee.is_nan t) h))) [ inl l ↦ absurd (lt_irrefl t l) | inr e ↦ from-T (Ieee.eq t t) e ]
  where
    from-T : (b : Bool) → T b → b ≡ true
    from-T true y = refl
    from-T false y = absurd y
