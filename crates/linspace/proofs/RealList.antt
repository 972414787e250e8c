-- The list of a real stepped axis, where it is not too long, is strictly ordered: a sum that does not go on equals the one before it, and
-- then so do all that follow, and the list does not end. Assumes nothing.
use mathlib.Core.Path.{◌≡◌, refl, sym, ap, subst, ◌∙◌}
use mathlib.Core.Logic.{◌⊎◌, inl, inr}
use mathlib.Core.Bool.{Bool, true, false}
use mathlib.Core.List.{◌∷◌}
use Prim.Native.Nat.{ℕ, zero, suc, ◌≤◌, ◌<◌}
use native.Mathlib.Omega.{arith}
use lib.Dec.{T}
use lib.ListN.{length}
use lib.Ieee.{Float, binary64, fits, lt, eq}
use lib.Ieee.Fits.{add-fits}
use Rattle.real.proofs.Signs.{zero_of, zeros_equal, Alike, alike_through, add_left}
use Rattle.search.specs.Lists.{goes_on, ascends}
use Rattle.search.specs.Lists as in_list
use Rattle.search.proofs.Orders.{Order, way}
use Rattle.search.proofs.RealOrder.{real-order}
use Rattle.linspace.specs.List.{real, entries, toward}
use Rattle.linspace.specs.RealSteps.{plus_step}
use Rattle.linspace.proofs.Walks.{entries_on, entries_off, entries-few, entries_none}
use Rattle.linspace.proofs.RealSums.{eq_written, never_back, never_on}

-- ---- any walk: where a step leads on, or else no end is reached, a list with an end is ordered
module _ {A : Type 0} (passes : A → Bool) (next : A → A) (lt : A → A → Bool) where
  abbrev Endless : A → Type 0
  Endless x = (n : ℕ) → length (entries passes next n x) ≡ n

  module _ (Good : A → Type 0) (good : (x : A) → Good (next x)) (step : (x : A) → Good x → passes x ≡ true → passes (next x) ≡ true → (lt x (next x) ≡ true) ⊎ Endless x) where
    leads : (n : ℕ) (x : A) → Good x → passes x ≡ true → length (entries passes next (suc n) x) ≤ n → ascends lt (entries passes next n (next x)) ≡ true → goes_on lt x (entries passes next n (next x)) ≡ true
    leads n x g p h a = go n refl (passes (next x)) refl
      where
        first : (k : ℕ) → n ≡ suc k → passes (next x) ≡ true → (lt x (next x) ≡ true) ⊎ Endless x → goes_on lt x (entries passes next n (next x)) ≡ true
        first k e q (inl l) =
            let t : entries passes next n (next x) ≡ next x ∷ entries passes next k (next (next x)) = ap (λ (m : ℕ). entries passes next m (next x)) e ∙ entries_on passes next k (next x) q in
            ap (goes_on lt x) t ∙ rw l (sym (ap (ascends lt) t) ∙ a)
        first k e q (inr w) = absurd (omega (arith, h, w (suc n)))

        go : (k : ℕ) → n ≡ k → (t : Bool) → passes (next x) ≡ t → goes_on lt x (entries passes next n (next x)) ≡ true
        go zero e t q = ap (goes_on lt x) (entries_none passes next n (next x) e)
        go (suc k) e true q = first k e q (step x g p q)
        go (suc k) e false q = ap (goes_on lt x) (entries_off passes next n (next x) q)

    pub ordered : (n : ℕ) (x : A) → Good x → length (entries passes next n x) < n → ascends lt (entries passes next n x) ≡ true
    ordered zero x g h = absurd (omega (arith, h))
    ordered (suc n) x g h = go (passes x) refl (ordered n (next x) (good x))
      where
        go : (t : Bool) → passes x ≡ t → (length (entries passes next n (next x)) < n → ascends lt (entries passes next n (next x)) ≡ true) → ascends lt (entries passes next (suc n) x) ≡ true
        go true p r = ap (ascends lt) (entries_on passes next n x p) ∙ leads n x g p (omega (arith, h)) (r (omega (arith, h, ap length (entries_on passes next n x p))))
        go false p r = ap (ascends lt) (entries_off passes next (suc n) x p)

-- ---- a walk that stands still has no end
module _ {A : Type 0} (passes : A → Bool) (next : A → A) (Same : A → A → Type 0) (kept : (x y : A) → Same x y → Same (next x) (next y)) (passed : (x y : A) → Same x y → passes x ≡ true → passes y ≡ true) where
  pub endless : (x : A) → Same x (next x) → passes x ≡ true → (n : ℕ) → length (entries passes next n x) ≡ n
  endless x s p zero = let h = entries-few passes next 0 x in omega (arith, h)
  endless x s p (suc n) = ap length (entries_on passes next n x p) ∙ ap suc (endless (next x) (kept x (next x) s) (passed x (next x) s p) n)

-- ---- real numbers
module _ (rises : Bool) (b d : Float) where
  abbrev pub p : Float → Bool
  p = toward real rises b

  abbrev pub w : Order Float (in_list.toward rises lt) eq
  w = way real-order rises

  alike-passes : (x y : Float) → Alike x y → p x ≡ true → p y ≡ true
  alike-passes x y (inl e) h = subst (λ (z : Float). p z ≡ true) e h
  alike-passes x y (inr z) h =
      w.follow y x b (subst (λ (u : Float). eq y u ≡ true) (sym z.0.1) (subst (λ (u : Float). eq u (zero_of z.0.0) ≡ true) (sym z.1.1) (zeros_equal z.1.0 z.0.0))) h

  -- the step leads toward b
  abbrev pub Onward : Type 0
  Onward = in_list.toward rises lt (zero_of false) d ≡ true

  pub never_behind : (x : Float) → T (fits binary64 x) → Onward → in_list.toward rises lt (plus_step d x) x ≡ false
  never_behind x f o = go rises o
    where
      go : (r : Bool) → in_list.toward r lt (zero_of false) d ≡ true → in_list.toward r lt (plus_step d x) x ≡ false
      go true o = never_back x d f o
      go false o = never_on x d f o

  step_on : (x : Float) → T (fits binary64 x) → Onward → p x ≡ true → p (plus_step d x) ≡ true → (in_list.toward rises lt x (plus_step d x) ≡ true) ⊎ Endless p (plus_step d) (in_list.toward rises lt) x
  step_on x f o h k = go (eq (plus_step d x) x) refl
    where
      go : (t : Bool) → eq (plus_step d x) x ≡ t → (in_list.toward rises lt x (plus_step d x) ≡ true) ⊎ Endless p (plus_step d) (in_list.toward rises lt) x
      go true e = inr (endless p (plus_step d) Alike (λ y z s. alike_through (plus_step d) (add_left d) s) alike-passes x (eq_written x (plus_step d x) f (add-fits binary64 x d) (w.even x (plus_step d x) ∙ e)) h)
      go false e = inl (w.total (plus_step d x) x (w.left (plus_step d x) b k) (w.left x b h) (never_behind x f o) e)

  pub run-ascends : (n : ℕ) (a : Float) → T (fits binary64 a) → Onward → length (entries p (plus_step d) n a) < n → ascends (in_list.toward rises lt) (entries p (plus_step d) n a) ≡ true
  run-ascends n a f o h = ordered p (plus_step d) (in_list.toward rises lt) (λ x. T (fits binary64 x)) (λ x. add-fits binary64 x d) (λ x g. step_on x g o) n a f h
