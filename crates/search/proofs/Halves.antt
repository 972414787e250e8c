-- The place of a target in an ordered list. Assumes nothing.
use mathlib.Core.Path.{◌≡◌, refl, sym, subst, ◌∙◌}
use mathlib.Core.Bool.{Bool, true, false, true≢false}
use mathlib.Core.List.{List}
use Prim.Native.Nat.{ℕ, ◌≤◌, ◌<◌}
use native.Mathlib.Omega.{arith}
use native.Mathlib.Decide.{dec_lt}
use lib.ListN.{length, get_or}
use Rattle.search.specs.Steps.{Encloses, PlaceOf}
use Rattle.search.proofs.Orders.{Order}
use Rattle.search.proofs.Settles.{Sorted}
use Rattle.search.proofs.Lists.{entry_any}

module _ {A : Type 0} {lt eq : A → A → Bool} (o : Order A lt eq) (l : List A) (d t : A) where
  pub enclosed : Encloses lt l d t 0 (length l)
  enclosed = record { order = omega arith; within = omega arith; before = λ k h. absurd (omega (arith, h)); from = λ k h m. absurd (omega (arith, h, m)) }

  module _ (s : Sorted lt l d) (lo hi m : ℕ) (b : Encloses lt l d t lo hi) (lm : lo ≤ m) (mh : m < hi) where
    pub beneath : lt (get_or l m d) t ≡ false → Encloses lt l d t lo m
    beneath e = record { order = lm; within = omega (arith, mh, b.within); before = b.before; from = λ k h n. go k h n (dec_lt m k) (lt (get_or l k d) t) refl }
      where
        go : (k : ℕ) → m ≤ k → k < length l → Dec (m < k) → (c : Bool) → lt (get_or l k d) t ≡ c → lt (get_or l k d) t ≡ false
        go k h n (yes u) true q = absurd (true≢false (sym (o.trans (get_or l m d) (get_or l k d) t (s m k u n) q) ∙ e))
        go k h n (no u) true q = let w : m ≡ k = omega (arith, h, u) in subst (λ (j : ℕ). lt (get_or l j d) t ≡ false) w e
        go k h n u false q = q

-- a place in a list does not depend on what stands for no entry
pub place_any : {A : Type 0} (lt : A → A → Bool) (l : List A) (d d' t : A) (i : ℕ) → PlaceOf lt l d t i → PlaceOf lt l d' t i
place_any lt l d d' t i p = record {
  order = p.order;
  within = p.within;
  before = λ k h. subst (λ (z : _). lt z t ≡ true) (entry_any l k d d' (omega (arith, h, p.within))) (p.before k h);
  from = λ k h m. subst (λ (z : _). lt z t ≡ false) (entry_any l k d d' m) (p.from k h m);
}
