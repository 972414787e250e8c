-- What `best` is: the entry that passes and is better than every other that does, or none where none passes. Assumes nothing.
use mathlib.Core.Path.{◌≡◌, refl, sym, subst}
use mathlib.Core.Bool.{Bool, true, false, cond}
use mathlib.Core.List.{List, [], ◌∷◌}
use Prim.Native.Nat.{ℕ, zero, suc, ◌<◌}
use native.Mathlib.Omega.{arith}
use native.Mathlib.Nat.{suc_inj}
use lib.ListN.{length, get_or}
use Rattle.ranged1d.specs.Answer.{Answer, given, none, refused}
use Rattle.search.specs.Search.{further, unless_better, best}

module _ {A : Type 0} (passes : A → Bool) (better : A → A → Bool) (d : A) where
  -- an entry that was found is one of the list, and passes
  pub record Found (l : List A) (f : ℕ × A) : Type 0 where
    pub inside : f.0 < length l
    pub there : get_or l f.0 d ≡ f.1
    pub passed : passes f.1 ≡ true

  abbrev pub Sound : List A → Answer (ℕ × A) → Type 0
  Sound l (given f) = Found l f
  Sound l none = l ≡ l
  Sound l (refused n) = ⊥

  first : (x : A) (xs : List A) → passes x ≡ true → Found (x ∷ xs) (0, x)
  first x xs p = record { inside = omega arith; there = refl; passed = p }

  next : (x : A) (xs : List A) (f : ℕ × A) → Found xs f → Found (x ∷ xs) (suc f.0, f.1)
  next x xs f s = record { inside = omega (arith, s.inside); there = s.there; passed = s.passed }

  pub best_sound : (l : List A) → Sound l (best passes better l)
  best_sound [] = refl
  best_sound (x ∷ xs) = go (passes x) refl (best passes better xs) (best_sound xs)
    where
      beside : passes x ≡ true → (f : ℕ × A) → Found xs f → (b : Bool) → Sound (x ∷ xs) (cond b (given (suc f.0, f.1)) (given (0, x)))
      beside p f s true = next x xs f s
      beside p f s false = first x xs p

      go : (t : Bool) → passes x ≡ t → (r : Answer (ℕ × A)) → Sound xs r → Sound (x ∷ xs) (cond t (unless_better better x r) (further r))
      go true p (given f) s = beside p f s (better f.1 x)
      go true p none s = first x xs p
      go true p (refused n) s = absurd s
      go false p (given f) s = next x xs f s
      go false p none s = refl
      go false p (refused n) s = absurd s

  pub best_none : (l : List A) → ((k : ℕ) → k < length l → passes (get_or l k d) ≡ false) → best passes better l ≡ none
  best_none [] u = refl
  best_none (x ∷ xs) u = rw (u 0 (omega arith), best_none xs (λ k h. u (suc k) (omega (arith, h)))) refl

  -- how an entry stands to another that passes
  abbrev pub Beats : A → A → Type 0
  Beats x y = (better x y ≡ true) × (better y x ≡ false)

  pub best_is : (l : List A) (j : ℕ) → j < length l → passes (get_or l j d) ≡ true
      → ((k : ℕ) → k < length l → (k ≡ j → ⊥) → passes (get_or l k d) ≡ true → Beats (get_or l j d) (get_or l k d))
      → best passes better l ≡ given (j, get_or l j d)
  best_is [] j h p u = absurd (omega (arith, h))
  best_is (x ∷ xs) zero h p u = rw p (go (best passes better xs) (best_sound xs))
    where
      worse : (f : ℕ × A) → Found xs f → better f.1 x ≡ false
      worse f s = subst (λ (y : A). better y x ≡ false) s.there (u (suc f.0) (omega (arith, s.inside)) (λ e. omega (arith, e)) (subst (λ (y : A). passes y ≡ true) (sym s.there) s.passed)).1

      go : (r : Answer (ℕ × A)) → Sound xs r → unless_better better x r ≡ given (0, x)
      go (given f) s = rw (worse f s) refl
      go none s = refl
      go (refused n) s = absurd s
  best_is (x ∷ xs) (suc j) h p u =
      go (passes x) refl (best_is xs j (omega (arith, h)) p (λ k l n q. u (suc k) (omega (arith, l)) (λ e. n (suc_inj e)) q))
    where
      go : (t : Bool) → passes x ≡ t → best passes better xs ≡ given (j, get_or xs j d) → cond t (unless_better better x (best passes better xs)) (further (best passes better xs)) ≡ given (suc j, get_or xs j d)
      go true q e = rw (e, (u 0 (omega arith) (λ z. omega (arith, z)) q).0) refl
      go false q e = rw e refl
