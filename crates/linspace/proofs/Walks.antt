-- The entries of a list that is walked, for any numbers: one step, the walk's promises, and each entry as the first after so many steps.
-- Assumes nothing.
use mathlib.Core.Path.{◌≡◌, refl, sym, ap, subst, ◌∙◌}
use mathlib.Core.Bool.{Bool, true, false}
use mathlib.Core.List.{List, [], ◌∷◌}
use Prim.Native.Nat.{ℕ, zero, suc, ◌+◌, ◌-◌, ◌*◌, ◌≤◌, ◌<◌}
use native.Mathlib.Nat.{zero-add, suc-add, sub-zero, zero-mul, suc-mul}
use native.Mathlib.Numerals.{add-one}
use native.Mathlib.Omega.{arith}
use native.Mathlib.Decide.{dec_lt}
use lib.ListN.{length, get_or}
use Rattle.ranged1d.specs.Answer.{given, none}
use Rattle.numeric.specs.Marks.{list_of}
use Rattle.numeric.proofs.Lists.{entry, list_cons, list_ext}
use Rattle.linspace.specs.List.{entries}
use Rattle.linspace.specs.Calls.{nth}
use Rattle.linspace.specs.RealSteps.{after, Walked, Going, Reached}

-- ---- entries by their index
module _ {A : Type 0} where
  pub nth_is : (l : List A) (k : ℕ) (d : A) → k < length l → nth l k ≡ given (get_or l k d)
  nth_is [] k d h = absurd (omega (arith, h))
  nth_is (x ∷ xs) zero d h = refl
  nth_is (x ∷ xs) (suc k) d h = nth_is xs k d (omega (arith, h))

  pub nth_past : (l : List A) (k : ℕ) → length l ≤ k → nth l k ≡ none
  nth_past [] k h = refl
  nth_past (x ∷ xs) zero h = absurd (omega (arith, h))
  nth_past (x ∷ xs) (suc k) h = nth_past xs k (omega (arith, h))

-- ---- steps
module _ {A : Type 0} (next : A → A) where
  pub after_step : (k : ℕ) (x : A) {y : A} → y ≡ after next k x → next y ≡ after next (k + 1) x
  unfolding after
  after_step k x e = rw (add-one k) (ap next e)

  pub after_front : (k : ℕ) (x : A) → after next (suc k) x ≡ after next k (next x)
  unfolding after
  after_front zero x = refl
  after_front (suc k) x = ap next (after_front k x)

  pub after_more : (m n : ℕ) (x : A) → after next m (after next n x) ≡ after next (m + n) x
  unfolding after
  after_more zero n x = rw (zero-add n) refl
  after_more (suc m) n x = rw (suc-add m n) (ap next (after_more m n x))

  -- m steps on from where n have led
  pub after_on : (m n : ℕ) {k : ℕ} (x : A) {y z : A} → m + n ≡ k → z ≡ after next m y → y ≡ after next n x → z ≡ after next k x
  after_on m n x e p q = p ∙ ap (after next m) q ∙ after_more m n x ∙ ap (λ (k : ℕ). after next k x) e

  -- so many steps at a time
  pub after_none : (by : ℕ) (x : A) → x ≡ after next (0 * by) x
  unfolding after
  after_none by x = rw (zero-mul by) refl

  pub after_turn : (by k : ℕ) (x : A) {y z : A} → z ≡ after next by y → y ≡ after next (k * by) x → z ≡ after next ((k + 1) * by) x
  after_turn by k x e h = after_on by (k * by) x (omega (arith, suc-mul k by, ap (λ (n : ℕ). n * by) (add-one k))) e h

steps_cons : {A : Type 0} (next : A → A) (x : A) (l : ℕ) → x ∷ list_of (λ k. after next (suc k) x) l ≡ list_of (λ k. after next k x) (suc l)
unfolding after
steps_cons next x l = sym (list_cons (λ k. after next k x) l)

-- ---- the list
module _ {A : Type 0} (passes : A → Bool) (next : A → A) where
  pub entries_on : (n : ℕ) (x : A) → passes x ≡ true → entries passes next (suc n) x ≡ x ∷ entries passes next n (next x)
  unfolding entries
  entries_on n x p = rw p refl

  pub entries_off : (n : ℕ) (x : A) → passes x ≡ false → entries passes next n x ≡ []
  unfolding entries
  entries_off zero x p = refl
  entries_off (suc n) x p = rw p refl

  pub entries_none : (n : ℕ) (x : A) → n ≡ 0 → entries passes next n x ≡ []
  unfolding entries
  entries_none zero x e = refl
  entries_none (suc n) x e = absurd (omega (arith, e))

  -- what holds of an empty list, and of one entry more in front of it, holds of the list
  entries_by : (P : ℕ → A → List A → Type 0) → ((n : ℕ) (x : A) → P n x []) → ((n : ℕ) (x : A) (l : List A) → passes x ≡ true → P n (next x) l → P (suc n) x (x ∷ l)) → (n : ℕ) (x : A) → P n x (entries passes next n x)
  entries_by P empty more zero x = rw (entries_none zero x refl) (empty zero x)
  entries_by P empty more (suc n) x = go (passes x) refl (entries_by P empty more n (next x))
    where
      go : (t : Bool) → passes x ≡ t → P n (next x) (entries passes next n (next x)) → P (suc n) x (entries passes next (suc n) x)
      go true p r = rw (entries_on n x p) (more n x (entries passes next n (next x)) p r)
      go false p r = rw (entries_off (suc n) x p) (empty (suc n) x)

  pub entries-few : (n : ℕ) (x : A) → length (entries passes next n x) ≤ n
  entries-few = entries_by (λ n x l. length l ≤ n) (λ n x. omega arith) (λ n x l p h. omega (arith, h))

  -- the list is the first after no step, after one, after two, and so on
  pub entries-are : (n : ℕ) (x : A) → entries passes next n x ≡ list_of (λ k. after next k x) (length (entries passes next n x))
  entries-are =
      entries_by (λ n x l. l ≡ list_of (λ k. after next k x) (length l)) (λ n x. refl)
      (λ n x l p e. ap (λ (z : List A). x ∷ z) (e ∙ list_ext (λ k. after next k (next x)) (λ k. after next (suc k) x) (length l) (λ k h. sym (after_front next k x))) ∙ steps_cons next x (length l))

  pub entry_is : (n : ℕ) (x d : A) (k : ℕ) → k < length (entries passes next n x) → get_or (entries passes next n x) k d ≡ after next k x
  entry_is n x d k h =
      ap (λ (l : List A). get_or l k d) (entries-are n x) ∙ entry (λ j. after next j x) d (length (entries passes next n x)) k h

  pub entry-passes : (n : ℕ) (x : A) (k : ℕ) → k < length (entries passes next n x) → passes (after next k x) ≡ true
  unfolding after
  entry-passes =
      entries_by (λ n x l. (k : ℕ) → k < length l → passes (after next k x) ≡ true) (λ n x k h. absurd (omega (arith, h))) more
    where
      more : (n : ℕ) (x : A) (l : List A) → passes x ≡ true → ((k : ℕ) → k < length l → passes (after next k (next x)) ≡ true) → (k : ℕ) → k < length (x ∷ l) → passes (after next k x) ≡ true
      more n x l p r zero h = p
      more n x l p r (suc k) h = subst (λ (z : A). passes z ≡ true) (sym (after_front next k x)) (r k (omega (arith, h)))

  -- ---- a walk, entry by entry: those that are passed and those that are left
  module _ (most : ℕ) where
    abbrev total : ℕ → A → ℕ
    total n x = n + length (entries passes next (most - n) x)

    pub total_on : (n : ℕ) (x : A) → n < most → passes x ≡ true → total n x ≡ total (n + 1) (next x)
    total_on n x h p =
        let e : most - n ≡ suc (most - (n + 1)) = omega (arith, h) in
        let r : length (entries passes next (most - n) x) ≡ suc (length (entries passes next (most - (n + 1)) (next x))) =
        ap (λ (k : ℕ). length (entries passes next k x)) e ∙ ap length (entries_on (most - (n + 1)) x p) in
        omega (arith, r)

    pub total-ends : (n : ℕ) (x : A) → passes x ≡ false → total n x ≡ n
    total-ends n x p = omega (arith, ap length (entries_off (most - n) x p))

    pub total_full : (n : ℕ) (x : A) → most ≤ n → total n x ≡ n
    total_full n x h = omega (arith, ap length (entries_none (most - n) x (omega (arith, h))))

    pub total_starts : (x : A) → total 0 x ≡ length (entries passes next most x)
    total_starts x = rw (sub-zero most) (zero-add (length (entries passes next most x)))

    module _ (a : A) where
      pub walk_starts : Walked passes next most a 0 a
      unfolding after
      walk_starts = record { at = refl; within = omega arith; rest = sym (total_starts a) }

      pub walk_on : (n : ℕ) (x : A) → Walked passes next most a n x → n < most → passes x ≡ true → Walked passes next most a (n + 1) (next x)
      walk_on n x w h p = record { at = after_step next n a w.at; within = omega (arith, h); rest = w.rest ∙ total_on n x h p }

      -- a walk to entry k stands there, if the list has it
      pub reached-at : (k n : ℕ) (x : A) → Reached passes next most a k n x → k < total n x → x ≡ after next k a
      reached-at k n x w h = w.walked.at ∙ ap (λ (j : ℕ). after next j a) (go (dec_lt n k) (dec_lt n most))
        where
          go : Dec (n < k) → Dec (n < most) → n ≡ k
          go (yes u) (yes v) = absurd (omega (arith, h, u, total-ends n x (w.stopped v u)))
          go (yes u) (no v) = absurd (omega (arith, h, u, total_full n x (omega (arith, v))))
          go (no u) _ = omega (arith, u, w.short)

      -- every entry so far meets a test
      module _ (test : A → Bool) where
        pub going_starts : (t : A) → Going passes next most a test 0 t a
        going_starts t = record { walked = walk_starts; front = λ j h. absurd (omega (arith, h)); last = λ j e. absurd (omega (arith, e)) }

        pub going_on : (n : ℕ) (left x : A) → Going passes next most a test n left x → n < most → passes x ≡ true → test x ≡ true → Going passes next most a test (n + 1) x (next x)
        going_on n left x g h p q = record { walked = walk_on n x g.walked h p; front = λ j l. go j l (dec_lt j n); last = λ j e. here j (omega (arith, e)) }
          where
            here : (j : ℕ) → n ≡ j → x ≡ after next j a
            here j e = g.walked.at ∙ ap (λ (k : ℕ). after next k a) e

            go : (j : ℕ) → j < n + 1 → Dec (j < n) → test (after next j a) ≡ true
            go j l (yes u) = g.front j u
            go j l (no u) = subst (λ (z : A). test z ≡ true) (here j (omega (arith, l, u))) q
