-- The four searches, by the place of the target in an ordered list. Assumes nothing.
use mathlib.Core.Path.{◌≡◌, refl, sym, ap, subst, ◌∙◌}
use mathlib.Core.Bool.{Bool, true, false, cond, true≢false, ◌&&◌, ◌||◌}
use mathlib.Core.List.{List}
use Prim.Native.Nat.{ℕ, zero, suc, ◌≤◌, ◌<◌}
use native.Mathlib.Omega.{arith}
use native.Mathlib.Decide.{dec_lt}
use borrow.Author.Tests.{lt-ltb, le-ltb}
use lib.Dec.{ltb}
use lib.ListN.{length, get_or}
use Rattle.ranged1d.specs.Answer.{Answer, given, none}
use Rattle.ranged1d.proofs.Bools.{or_right, cond_same}
use Rattle.search.specs.Search.{Numbers, best, exact, up, down, between, index_of, search}
use Rattle.search.specs.Settled.{ahead, behind, nearest, closer, unequal, settled}
use Rattle.search.specs.Lists.{toward}
use Rattle.search.specs.Steps.{PlaceOf}
use Rattle.search.specs.declared.RoundingMethod.{RoundingMethod}
use Rattle.search.specs.declared.RoundingMethod.TheVariants.{Exact, Ceil, Floor, Round}
use Rattle.search.proofs.Best.{Beats, best_none, best_is}
use Rattle.search.proofs.Orders.{Order, past_too, way}

-- each entry comes before every later one
abbrev pub Sorted : {A : Type 0} → (A → A → Bool) → List A → A → Type 0
Sorted lt l d = (j k : ℕ) → j < k → k < length l → lt (get_or l j d) (get_or l k d) ≡ true

-- every entry equals itself
abbrev pub Ordinary : {A : Type 0} → (A → A → Bool) → List A → A → Type 0
Ordinary eq l d = (k : ℕ) → k < length l → eq (get_or l k d) (get_or l k d) ≡ true

or-false : (x y : Bool) → x ≡ false → y ≡ false → (x || y) ≡ false
or-false x y p q = rw (p, q) refl

or_left : (x y : Bool) → x ≡ true → (x || y) ≡ true
or_left x y p = rw p refl

clash : {A : Type 0} (x : Bool) → x ≡ true → x ≡ false → A
clash x p q = absurd (true≢false (sym p ∙ q))

-- One direction: lt is the list's own order.
module _ {A : Type 0} {lt eq : A → A → Bool} (o : Order A lt eq) (l : List A) (t : A) (i : ℕ) (sorted : Sorted lt l t) (ordinary : Ordinary eq l t) (self : eq t t ≡ true) (at : PlaceOf lt l t t i) where
  abbrev e : ℕ → A
  e k = get_or l k t

  -- an entry before the target is neither equal to it nor past it
  front-unequal : (k : ℕ) → k < i → eq (e k) t ≡ false
  front-unequal k h = o.apart (e k) t (at.before k h)

  front_not_past : (k : ℕ) → k < i → lt t (e k) ≡ false
  front_not_past k h = o.asym (e k) t (at.before k h)

  -- past an entry that equals the target, and past one that is past it
  after : (k : ℕ) → i < k → k < length l → lt t (e k) ≡ true
  after k h m = let n : i < length l = omega (arith, h, m) in past_too o (e i) t (e k) (ordinary i n) self (at.from i (omega arith) n) (sorted i k h m)

  after-unequal : (k : ℕ) → i < k → k < length l → eq (e k) t ≡ false
  after-unequal k h m = o.even (e k) t ∙ o.apart t (e k) (after k h m)

  after_not_before : (k : ℕ) → i < k → k < length l → lt (e k) t ≡ false
  after_not_before k h m = o.asym t (e k) (after k h m)

  elsewhere : {P : ℕ → Type 0} → ((k : ℕ) → k < i → P k) → ((k : ℕ) → i < k → k < length l → P k) → (k : ℕ) → k < length l → (k ≡ i → ⊥) → P k
  elsewhere {P} f g k m n = go (dec_lt k i)
    where
      go : Dec (k < i) → P k
      go (yes h) = f k h
      go (no h) = g k (omega (arith, h, n)) m

  module _ (h : i < length l) where
    pub hit_exact : eq (e i) t ≡ true → best (λ x. eq x t) (λ x y. false) l ≡ given (i, e i)
    hit_exact q =
        best_is (λ x. eq x t) (λ x y. false) t l i h q
        (λ k m n p. clash (eq (e k) t) p (elsewhere {P = λ k. eq (e k) t ≡ false} front-unequal after-unequal k m n))

    past_or_equal : (lt t (e i) || eq (e i) t) ≡ true
    past_or_equal = go (eq (e i) t) refl
      where
        go : (b : Bool) → eq (e i) t ≡ b → (lt t (e i) || eq (e i) t) ≡ true
        go true q = or_right (lt t (e i)) (eq (e i) t) q
        go false q = or_left (lt t (e i)) (eq (e i) t) (o.total (e i) t (ordinary i h) self (at.from i (omega arith) h) q)

    pub hit_ahead : best (λ x. lt t x || eq x t) lt l ≡ given (i, e i)
    hit_ahead =
        best_is (λ x. lt t x || eq x t) lt t l i h past_or_equal
        (λ k m n p. elsewhere {P = λ k. (lt t (e k) || eq (e k) t) ≡ true → Beats (λ x. lt t x || eq x t) lt t (e i) (e k)}
        (λ k f p. clash (lt t (e k) || eq (e k) t) p (or-false (lt t (e k)) (eq (e k) t) (front_not_past k f) (front-unequal k f)))
        (λ k g m p. (sorted i k g m, o.asym (e i) (e k) (sorted i k g m))) k m n p)

    pub hit_behind : eq (e i) t ≡ true → best (λ x. lt x t || eq x t) (λ x y. lt y x) l ≡ given (i, e i)
    hit_behind q =
        best_is (λ x. lt x t || eq x t) (λ x y. lt y x) t l i h (or_right (lt (e i) t) (eq (e i) t) q)
        (λ k m n p. elsewhere {P = λ k. (lt (e k) t || eq (e k) t) ≡ true → Beats (λ x. lt x t || eq x t) (λ x y. lt y x) t (e i) (e k)}
        (λ k f p. (sorted k i f h, o.asym (e k) (e i) (sorted k i f h)))
        (λ k g m p. clash (lt (e k) t || eq (e k) t) p (or-false (lt (e k) t) (eq (e k) t) (after_not_before k g m) (after-unequal k g m))) k m n p)

  -- the target is no entry
  module _ (miss : i < length l → eq (e i) t ≡ false) where
    unequal-from : (k : ℕ) → i ≤ k → k < length l → eq (e k) t ≡ false
    unequal-from k h m = go (dec_lt i k)
      where
        go : Dec (i < k) → eq (e k) t ≡ false
        go (yes g) = after-unequal k g m
        go (no g) = let d : i ≡ k = omega (arith, h, g) in subst (λ (j : ℕ). eq (e j) t ≡ false) d (miss (omega (arith, h, m)))

    every-unequal : (k : ℕ) → k < length l → eq (e k) t ≡ false
    every-unequal k m = go (dec_lt k i)
      where
        go : Dec (k < i) → eq (e k) t ≡ false
        go (yes g) = front-unequal k g
        go (no g) = unequal-from k (omega (arith, g)) m

    pub miss_exact : best (λ x. eq x t) (λ x y. false) l ≡ none
    miss_exact = best_none (λ x. eq x t) (λ x y. false) t l every-unequal

    not_behind : (k : ℕ) → i ≤ k → k < length l → (lt (e k) t || eq (e k) t) ≡ false
    not_behind k h m = or-false (lt (e k) t) (eq (e k) t) (at.from k h m) (unequal-from k h m)

    pub miss_behind_none : i ≡ 0 → best (λ x. lt x t || eq x t) (λ x y. lt y x) l ≡ none
    miss_behind_none z = best_none (λ x. lt x t || eq x t) (λ x y. lt y x) t l (λ k m. not_behind k (omega (arith, z)) m)

    pub miss_behind : (j : ℕ) → suc j ≡ i → best (λ x. lt x t || eq x t) (λ x y. lt y x) l ≡ given (j, e j)
    miss_behind j s =
        best_is (λ x. lt x t || eq x t) (λ x y. lt y x) t l j (omega (arith, s, at.within)) (or_left (lt (e j) t) (eq (e j) t) (at.before j (omega (arith, s))))
        (λ k m n p. go k m n p (dec_lt k i))
      where
        go : (k : ℕ) → k < length l → (k ≡ j → ⊥) → (lt (e k) t || eq (e k) t) ≡ true → Dec (k < i) → Beats (λ x. lt x t || eq x t) (λ x y. lt y x) t (e j) (e k)
        go k m n p (yes g) = let u : k < j = omega (arith, g, n, s) in let v : j < length l = omega (arith, s, at.within) in (sorted k j u v, o.asym (e k) (e j) (sorted k j u v))
        go k m n p (no g) = clash (lt (e k) t || eq (e k) t) p (not_behind k (omega (arith, g)) m)

  pub miss_ahead : length l ≤ i → best (λ x. lt t x || eq x t) lt l ≡ none
  miss_ahead h = best_none (λ x. lt t x || eq x t) lt t l (λ k m. or-false (lt t (e k)) (eq (e k) t) (front_not_past k (omega (arith, h, m))) (front-unequal k (omega (arith, h, m))))

-- ---- the searches by what is found as an entry, ahead of the target and behind it
module _ {A : Type 0} (num : Numbers A) (t : A) where
  abbrev from : Bool → RoundingMethod → Answer (ℕ × A) → Answer (ℕ × A) → Answer (ℕ × A) → Answer ℕ
  from rises Exact e a b = index_of num t e
  from rises Ceil e a b = index_of num t (cond rises a b)
  from rises Floor e a b = index_of num t (cond rises b a)
  from rises Round e a b = between num t (cond rises b a) (cond rises a b)

  search-from : (rises : Bool) (method : RoundingMethod) (l : List A) (e a b : Answer (ℕ × A)) → exact num t l ≡ e → up num t l ≡ cond rises a b → down num t l ≡ cond rises b a → search num t method l ≡ from rises method e a b
  search-from rises Exact l e a b p q r = ap (index_of num t) p
  search-from rises Ceil l e a b p q r = ap (index_of num t) q
  search-from rises Floor l e a b p q r = ap (index_of num t) r
  search-from rises Round l e a b p q r = ap (λ (z : Answer (ℕ × A)). between num t z (up num t l)) r ∙ ap (between num t (cond rises b a)) q

  -- which of two equal answers is chosen does not matter
  from_hit : (rises : Bool) (method : RoundingMethod) (n i : ℕ) (x y : A) → i < n → num.equal y t ≡ true
      → from rises method (given (i, y)) (given (i, y)) (given (i, y)) ≡ settled num method rises n i x t y
  unfolding settled
  from_hit rises method n i x y h q = go rises method ∙ rw (lt-ltb _ _ h, q) refl
    where
      tie : (c u v : Bool) → cond c (cond u i i) (cond v i i) ≡ i
      tie c u v = ap (λ (z : ℕ). cond c z (cond v i i)) (cond_same u refl) ∙ ap (cond c i) (cond_same v refl) ∙ cond_same c refl

      go : (rises : Bool) (method : RoundingMethod) → from rises method (given (i, y)) (given (i, y)) (given (i, y)) ≡ given i
      go rises Exact = refl
      go true Ceil = refl
      go false Ceil = refl
      go true Floor = refl
      go false Floor = refl
      go true Round = ap given (tie (ltb i i) (num.less (num.minus t y) (num.minus y t)) (num.less (num.minus y t) (num.minus t y)))
      go false Round = ap given (tie (ltb i i) (num.less (num.minus t y) (num.minus y t)) (num.less (num.minus y t) (num.minus t y)))

  -- a target that is no entry, by what is found ahead of it and behind it
  from_parts : (rises : Bool) (method : RoundingMethod) (n i : ℕ) (x y : A) (a b : Answer (ℕ × A)) → (ltb i n && num.equal y t) ≡ false → index_of num t a ≡ ahead n i → index_of num t b ≡ behind i
      → between num t b a ≡ nearest n i (closer num true x t y) → between num t a b ≡ nearest n i (closer num false x t y) → from rises method none a b ≡ settled num method rises n i x t y
  unfolding settled
  from_parts rises method n i x y a b e p q r u = go rises method ∙ rw e refl
    where
      go : (rises : Bool) (method : RoundingMethod) → from rises method none a b ≡ unequal method rises n i (closer num rises x t y)
      go rises Exact = refl
      go true Ceil = p
      go false Ceil = q
      go true Floor = q
      go false Floor = p
      go true Round = r
      go false Round = u

  -- between two entries
  from-between : (rises : Bool) (method : RoundingMethod) (n j : ℕ) (x y : A) → suc j < n → num.equal y t ≡ false
      → from rises method none (given (suc j, y)) (given (j, x)) ≡ settled num method rises n (suc j) x t y
  from-between rises method n j x y h q =
      let b : j < suc j = omega arith in
      from_parts rises method n (suc j) x y (given (suc j, y)) (given (j, x)) (rw (lt-ltb _ _ h, q) refl) (rw (lt-ltb _ _ h) refl) refl
      (rw (lt-ltb _ _ h, lt-ltb _ _ b) (pair (num.less (num.minus t x) (num.minus y t)) j (suc j)))
      (rw (lt-ltb _ _ h, le-ltb (suc j) j (omega arith)) (pair (num.less (num.minus x t) (num.minus t y)) j (suc j)))
    where
      pair : (c : Bool) (u v : ℕ) → given (cond c u v) ≡ cond c (given u) (given v)
      pair true u v = refl
      pair false u v = refl

  -- before the first entry
  from_first : (rises : Bool) (method : RoundingMethod) (n : ℕ) (x y : A) → 0 < n → num.equal y t ≡ false
      → from rises method none (given (0, y)) none ≡ settled num method rises n 0 x t y
  from_first rises method n x y h q = from_parts rises method n 0 x y (given (0, y)) none (rw (lt-ltb _ _ h, q) refl) (rw (lt-ltb _ _ h) refl) refl refl refl

  -- past the last entry
  from_last : (rises : Bool) (method : RoundingMethod) (n j : ℕ) (x y : A) → n ≤ suc j → from rises method none none (given (j, x)) ≡ settled num method rises n (suc j) x t y
  from_last rises method n j x y h = let z = le-ltb (suc j) n h in from_parts rises method n (suc j) x y none (given (j, x)) (rw z refl) (rw z refl) refl (rw z refl) (rw z refl)

  -- in an empty list
  from-none : (rises : Bool) (method : RoundingMethod) (n : ℕ) (x y : A) → n ≡ 0 → from rises method none none none ≡ settled num method rises n 0 x t y
  from-none rises method n x y h = let z = le-ltb 0 n (omega (arith, h)) in from_parts rises method n 0 x y none none (rw z refl) (rw z refl) refl refl refl

  -- ---- the search of an ordered list, by the target's place in it
  module _ (o : Order A num.less num.equal) where
    -- what is found ahead of the target and behind it, in the list's own direction
    module _ (rises : Bool) (l : List A) where
      abbrev ahead_of : Answer (ℕ × A)
      ahead_of = best (λ x. toward rises num.less t x || num.equal x t) (toward rises num.less) l

      abbrev behind_of : Answer (ℕ × A)
      behind_of = best (λ x. toward rises num.less x t || num.equal x t) (λ x y. toward rises num.less y x) l

    up_is : (rises : Bool) (l : List A) → up num t l ≡ cond rises (ahead_of rises l) (behind_of rises l)
    up_is true l = refl
    up_is false l = refl

    down_is : (rises : Bool) (l : List A) → down num t l ≡ cond rises (behind_of rises l) (ahead_of rises l)
    down_is true l = refl
    down_is false l = refl

    pub settles : (rises : Bool) (method : RoundingMethod) (l : List A) (i : ℕ) (x y : A)
        → Sorted (toward rises num.less) l t → Ordinary num.equal l t → num.equal t t ≡ true → PlaceOf (toward rises num.less) l t t i
        → (i < length l → y ≡ get_or l i t) → ((j : ℕ) → suc j ≡ i → x ≡ get_or l j t)
        → search num t method l ≡ settled num method rises (length l) i x t y
    settles rises method l i x y s f self at yi xi =
        search-from rises method l (exact num t l) (ahead_of rises l) (behind_of rises l) refl (up_is rises l) (down_is rises l) ∙ go (dec_lt i (length l))
      where
        w : Order A (toward rises num.less) num.equal
        w = way o rises

        told : (e a b e' a' b' : Answer (ℕ × A)) → e ≡ e' → a ≡ a' → b ≡ b' → from rises method e a b ≡ from rises method e' a' b'
        told e a b e' a' b' p q r = rw (p, q, r) refl

        gone : length l ≤ i → (k : ℕ) → k ≡ i → from rises method (exact num t l) (ahead_of rises l) (behind_of rises l) ≡ settled num method rises (length l) i x t y
        gone h zero e =
            told (exact num t l) (ahead_of rises l) (behind_of rises l) none none none (miss_exact w l t i s f self at (λ g. absurd (omega (arith, g, h)))) (miss_ahead w l t i s f self at h) (miss_behind_none w l t i s f self at (λ g. absurd (omega (arith, g, h))) (sym e))
            ∙ subst (λ (k : ℕ). from rises method none none none ≡ settled num method rises (length l) k x t y) e (from-none rises method (length l) x y (omega (arith, h, e)))
        gone h (suc j) e =
            told (exact num t l) (ahead_of rises l) (behind_of rises l) none none (given (j, x)) (miss_exact w l t i s f self at (λ g. absurd (omega (arith, g, h)))) (miss_ahead w l t i s f self at h) (miss_behind w l t i s f self at (λ g. absurd (omega (arith, g, h))) j e ∙ ap (λ (z : A). given (j, z)) (sym (xi j e)))
            ∙ subst (λ (k : ℕ). from rises method none none (given (j, x)) ≡ settled num method rises (length l) k x t y) e (from_last rises method (length l) j x y (omega (arith, h, e)))

        missed : (h : i < length l) → num.equal (get_or l i t) t ≡ false → (k : ℕ) → k ≡ i → from rises method (exact num t l) (ahead_of rises l) (behind_of rises l) ≡ settled num method rises (length l) i x t y
        missed h q zero e =
            told (exact num t l) (ahead_of rises l) (behind_of rises l) none (given (0, y)) none (miss_exact w l t i s f self at (λ g. q)) (hit_ahead w l t i s f self at h ∙ rw (e, ← yi h) refl) (miss_behind_none w l t i s f self at (λ g. q) (sym e))
            ∙ subst (λ (k : ℕ). from rises method none (given (0, y)) none ≡ settled num method rises (length l) k x t y) e (from_first rises method (length l) x y (omega (arith, h, e)) (rw (yi h) q))
        missed h q (suc j) e =
            told (exact num t l) (ahead_of rises l) (behind_of rises l) none (given (suc j, y)) (given (j, x)) (miss_exact w l t i s f self at (λ g. q)) (hit_ahead w l t i s f self at h ∙ rw (e, ← yi h) refl) (miss_behind w l t i s f self at (λ g. q) j e ∙ ap (λ (z : A). given (j, z)) (sym (xi j e)))
            ∙ subst (λ (k : ℕ). from rises method none (given (suc j, y)) (given (j, x)) ≡ settled num method rises (length l) k x t y) e (from-between rises method (length l) j x y (omega (arith, h, e)) (rw (yi h) q))

        inside : (h : i < length l) (b : Bool) → num.equal (get_or l i t) t ≡ b → from rises method (exact num t l) (ahead_of rises l) (behind_of rises l) ≡ settled num method rises (length l) i x t y
        inside h true q =
            let y_is : get_or l i t ≡ y = sym (yi h) in
            let pair : ◌≡◌ {A = Answer (ℕ × A)} (given (i, get_or l i t)) (given (i, y)) = ap (λ (z : A). given (i, z)) y_is in
            told (exact num t l) (ahead_of rises l) (behind_of rises l) (given (i, y)) (given (i, y)) (given (i, y)) (hit_exact w l t i s f self at h q ∙ pair) (hit_ahead w l t i s f self at h ∙ pair) (hit_behind w l t i s f self at h q ∙ pair)
            ∙ from_hit rises method (length l) i x y h (rw (yi h) q)
        inside h false q = missed h q i refl

        go : Dec (i < length l) → from rises method (exact num t l) (ahead_of rises l) (behind_of rises l) ≡ settled num method rises (length l) i x t y
        go (yes h) = inside h (num.equal (get_or l i t) t) refl
        go (no h) = gone (omega (arith, h)) i refl
