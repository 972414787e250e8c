-- Runs of entries that are written side by side: what a run holds so far, that stores outside it leave it alone, and that runs which follow
-- each other are one; and the sums that a walk has kept. Assumes nothing.
use mathlib.Core.Path.{◌≡◌, refl, sym, ap, ap₂, subst, ◌∙◌}
use mathlib.Core.Logic.{◌⊎◌, inl, inr}
use mathlib.Core.List.{List, [], ◌∷◌, ◌++◌, append_assoc, append-nil}
use Prim.Native.Nat.{ℕ, zero, suc, ◌+◌, ◌*◌, ◌≤◌, ◌<◌}
use native.Mathlib.Nat.{zero-add, add-mul, mul_assoc}
use native.Mathlib.Numerals.{add-one}
use native.Mathlib.Omega.{arith}
use native.Mathlib.Decide.{dec_lt}
use lib.ListN.{length, set, take, drop, get_or, length-set, drop_of_length-le}
use lib.Seq.{length-take-le, drop-cons, get_or-set_same, get_or-set_other, get_or-take, ext_get_or}
use Rattle.numeric.specs.Marks.{list_of}
use Rattle.numeric.proofs.Lists.{length_of, entry, list_cons, write_more}
use Rattle.linspace.specs.RealSteps.{after, sums_by, Kept, one_run, four_runs}
use Rattle.linspace.proofs.Walks.{after_more, after_on, after_none, after_turn}

-- `e` is any element: it stands where a list has none
module _ {A : Type 0} (e : A) where
  -- from `base` on the list holds the first k of a run
  abbrev pub Run : List A → ℕ → ℕ → (ℕ → A) → Type 0
  Run l base k f = (i : ℕ) → i < k → get_or l (base + i) e ≡ f i

  pub run_starts : (l : List A) (base : ℕ) (f : ℕ → A) → Run l base 0 f
  run_starts l base f i h = absurd (omega (arith, h))

  pub run_keeps : (l : List A) (base k : ℕ) (f : ℕ → A) (p : ℕ) (x : A) → (p < base) ⊎ (base + k ≤ p) → Run l base k f → Run (set l p x) base k f
  run_keeps l base k f p x out r i h = get_or-set_other l p (base + i) x e (apart out) ∙ r i h
    where
      apart : (p < base) ⊎ (base + k ≤ p) → base + i ≡ p → ⊥
      apart (inl u) q = omega (arith, u, q)
      apart (inr u) q = omega (arith, u, q, h)

  pub run_grows : (l : List A) (base k : ℕ) (f : ℕ → A) (x : A) → base + k < length l → x ≡ f k → Run l base k f → Run (set l (base + k) x) base (k + 1) f
  run_grows l base k f x within is r i h = go (dec_lt i k)
    where
      go : Dec (i < k) → get_or (set l (base + k) x) (base + i) e ≡ f i
      go (yes u) = get_or-set_other l (base + k) (base + i) x e (λ q. omega (arith, u, q)) ∙ r i u
      go (no u) =
          let same : k ≡ i = omega (arith, u, h) in
          ap (λ (j : ℕ). get_or (set l (base + k) x) (base + j) e) (sym same) ∙ get_or-set_same l (base + k) x e within ∙ is ∙ ap f same

  -- a run that is whole
  pub run-whole : (l : List A) (base g : ℕ) (f : ℕ → A) → base + g ≤ length l → Run l base g f → drop base l ≡ list_of f g ++ drop (base + g) l
  run-whole l base zero f h r = let q : base ≡ base + 0 = omega arith in ap (λ (n : ℕ). drop n l) q
  run-whole l base (suc g) f h r =
      let q : suc (base + g) ≡ base + suc g = omega arith in
      run-whole l base g f (omega (arith, h)) (λ i u. r i (omega (arith, u)))
      ∙ ap (λ (z : List A). list_of f g ++ z) (drop-cons l (base + g) e (omega (arith, h)) ∙ ap (λ (x : A). x ∷ drop (suc (base + g)) l) (r g (omega arith)))
      ∙ sym (append_assoc (list_of f g) (f g ∷ []) (drop (suc (base + g)) l))
      ∙ ap (λ (n : ℕ). list_of f (suc g) ++ drop n l) q

-- ---- sums that are kept: each of them, and the first n
module _ {A : Type 0} {next : A → A} {a : A} {h : ℕ} {l : List A} (e : A) (w : Kept next a h l) where
  pub kept_at : (i : ℕ) → i < length l → get_or l i e ≡ after next (i * h) a
  kept_at i u = ap (λ (m : List A). get_or m i e) w.are ∙ entry (λ k. after next (k * h) a) e (length l) i u

  pub kept-front : (n : ℕ) → n ≤ length l → take n l ≡ sums_by next h a n
  kept-front n u = ext_get_or e (take n l) (sums_by next h a n) (size ∙ sym (length_of (λ k. after next (k * h) a) n)) (λ i v. same i (omega (arith, v, size)))
    where
      size : length (take n l) ≡ n
      size = length-take-le n l u

      same : (i : ℕ) → i < n → get_or (take n l) i e ≡ get_or (sums_by next h a n) i e
      same i v = get_or-take n l i e v ∙ kept_at i (omega (arith, v, u)) ∙ sym (entry (λ k. after next (k * h) a) e n i v)

-- a run that begins where another ends goes on with it
pub runs_join : {A : Type 0} (next : A → A) (by : ℕ) (x : A) (m n : ℕ)
    → list_of (λ k. after next (k * by) x) m ++ list_of (λ k. after next (k * by) (after next (m * by) x)) n ≡ list_of (λ k. after next (k * by) x) (m + n)
runs_join next by x m zero =
    let q : m ≡ m + 0 = omega arith in
    append-nil (list_of (λ k. after next (k * by) x) m) ∙ ap (list_of (λ k. after next (k * by) x)) q
runs_join {A} next by x m (suc n) =
    let F : ℕ → A = λ k. after next (k * by) x in
    let G : ℕ → A = λ k. after next (k * by) (after next (m * by) x) in
    let p : n * by + m * by ≡ (m + n) * by = omega (arith, add-mul m n by) in
    let q : suc (m + n) ≡ m + suc n = omega arith in
    sym (append_assoc (list_of F m) (list_of G n) (G n ∷ []))
    ∙ ap (λ (l : List A). l ++ (G n ∷ [])) (runs_join next by x m n)
    ∙ ap (λ (y : A). list_of F (m + n) ++ (y ∷ [])) (after_more next (n * by) (m * by) x ∙ ap (λ (k : ℕ). after next k x) p)
    ∙ ap (list_of F) q

-- ---- four runs of g, one behind the other, of which the first k are written
module _ {A : Type 0} (e : A) (o : List A) (g : ℕ) (room : length o ≡ 4 * g) (f0 f1 f2 f3 : ℕ → A) where
  pub record Four (k : ℕ) (l : List A) : Type 0 where
    pub size : length l ≡ length o
    pub run0 : Run e l 0 k f0
    pub run1 : Run e l g k f1
    pub run2 : Run e l (2 * g) k f2
    pub run3 : Run e l (3 * g) k f3

  pub four_starts : Four 0 o
  four_starts =
      record { size = refl; run0 = run_starts e o 0 f0; run1 = run_starts e o g f1; run2 = run_starts e o (2 * g) f2; run3 = run_starts e o (3 * g) f3 }

  module _ {k : ℕ} {l : List A} (w : Four k l) (h : k < g) (x0 x1 x2 x3 : A) where
    abbrev l0 : List A
    l0 = set l k x0

    abbrev l1 : List A
    l1 = set l0 (g + k) x1

    abbrev l2 : List A
    l2 = set l1 (2 * g + k) x2

    abbrev l3 : List A
    l3 = set l2 (3 * g + k) x3

    pub size0 : length l0 ≡ length o
    size0 = length-set l k x0 ∙ w.size

    pub size1 : length l1 ≡ length o
    size1 = length-set l0 (g + k) x1 ∙ size0

    pub size2 : length l2 ≡ length o
    size2 = length-set l1 (2 * g + k) x2 ∙ size1

    pub size3 : length l3 ≡ length o
    size3 = length-set l2 (3 * g + k) x3 ∙ size2

    first : x0 ≡ f0 k → Run e l0 0 (k + 1) f0
    first q = subst (λ (i : ℕ). Run e (set l i x0) 0 (k + 1) f0) (zero-add k) (run_grows e l 0 k f0 x0 (omega (arith, h, room, w.size)) q w.run0)

    -- a store leaves the other runs alone
    abbrev Keeps : (p : ℕ) → List A → List A → Type 0
    Keeps p m n = (base j : ℕ) (f : ℕ → A) → (p < base) ⊎ (base + j ≤ p) → Run e m base j f → Run e n base j f

    keep0 : Keeps k l l0
    keep0 base j f = run_keeps e l base j f k x0

    keep1 : Keeps (g + k) l0 l1
    keep1 base j f = run_keeps e l0 base j f (g + k) x1

    keep2 : Keeps (2 * g + k) l1 l2
    keep2 base j f = run_keeps e l1 base j f (2 * g + k) x2

    keep3 : Keeps (3 * g + k) l2 l3
    keep3 base j f = run_keeps e l2 base j f (3 * g + k) x3

    pub four_turn : x0 ≡ f0 k → x1 ≡ f1 k → x2 ≡ f2 k → x3 ≡ f3 k → Four (k + 1) l3
    four_turn q0 q1 q2 q3 = record {
      size = size3;
      run0 = keep3 0 (k + 1) f0 (inr (omega (arith, h))) (keep2 0 (k + 1) f0 (inr (omega (arith, h))) (keep1 0 (k + 1) f0 (inr (omega (arith, h))) (first q0)));
      run1 = keep3 g (k + 1) f1 (inr (omega (arith, h))) (keep2 g (k + 1) f1 (inr (omega (arith, h))) (run_grows e l0 g k f1 x1 (omega (arith, h, room, size0)) q1 (keep0 g k f1 (inl h) w.run1)));
      run2 = keep3 (2 * g) (k + 1) f2 (inr (omega (arith, h))) (run_grows e l1 (2 * g) k f2 x2 (omega (arith, h, room, size1)) q2 (keep1 (2 * g) k f2 (inl (omega (arith, h))) (keep0 (2 * g) k f2 (inl (omega (arith, h))) w.run2)));
      run3 = run_grows e l2 (3 * g) k f3 x3 (omega (arith, h, room, size2)) q3 (keep2 (3 * g) k f3 (inl (omega (arith, h))) (keep1 (3 * g) k f3 (inl (omega (arith, h))) (keep0 (3 * g) k f3 (inl (omega (arith, h))) w.run3)));
    }

  pub four-whole : {l : List A} → Four g l → l ≡ list_of f0 g ++ (list_of f1 g ++ (list_of f2 g ++ (list_of f3 g ++ [])))
  four-whole {l} w =
      go 0 g f0 (omega (arith, room, w.size)) w.run0 (omega arith)
      (go g (2 * g) f1 (omega (arith, room, w.size)) w.run1 (omega arith)
      (go (2 * g) (3 * g) f2 (omega (arith, room, w.size)) w.run2 (omega arith)
      (go (3 * g) (4 * g) f3 (omega (arith, room, w.size)) w.run3 (omega arith) (drop_of_length-le l (omega (arith, room, w.size))))))
    where
      go : (base n : ℕ) (f : ℕ → A) {t : List A} → base + g ≤ length l → Run e l base g f → base + g ≡ n → drop n l ≡ t → drop base l ≡ list_of f g ++ t
      go base n f h r q d = run-whole e l base g f h r ∙ ap (λ (z : List A). list_of f g ++ z) (ap (λ (m : ℕ). drop m l) q ∙ d)

-- ---- the parts of a list by steps
module _ {A : Type 0} (next : A → A) (by : ℕ) (a : A) where
  abbrev F : ℕ → A
  F k = after next (k * by) a

  join_on : (m g : ℕ) (x : A) (t : List A) → x ≡ after next (m * by) a → list_of F m ++ one_run next by g x t ≡ list_of F (m + g) ++ t
  join_on m g x t e =
      sym (append_assoc (list_of F m) (list_of (λ k. after next (k * by) x) g) t)
      ∙ ap (λ (y : A). (list_of F m ++ list_of (λ k. after next (k * by) y) g) ++ t) e
      ∙ ap (λ (l : List A). l ++ t) (runs_join next by a m g)

  -- four runs of g that begin at the kept sums, which lie g · by steps apart, are one
  module _ (e : A) {h : ℕ} {kept : List A} (w : Kept next a h kept) (g : ℕ) (four : length kept ≡ 4) (apart : g * by ≡ h) where
    begins : (i m : ℕ) → i < 4 → i * g ≡ m → get_or kept i e ≡ after next (m * by) a
    begins i m l q =
        kept_at e w i (omega (arith, l, four))
        ∙ ap (λ (k : ℕ). after next k a) (ap (λ (k : ℕ). i * k) (sym apart) ∙ sym (mul_assoc i g by) ∙ ap (λ (k : ℕ). k * by) q)

    pub four_join : (t : List A) → four_runs next by g a (get_or kept 1 e) (get_or kept 2 e) (get_or kept 3 e) t ≡ list_of F (4 * g) ++ t
    four_join t =
        let all : g + g + g + g ≡ 4 * g = omega arith in
        join_on g g (get_or kept 1 e) (one_run next by g (get_or kept 2 e) (one_run next by g (get_or kept 3 e) t)) (begins 1 g (omega arith) (omega arith))
        ∙ join_on (g + g) g (get_or kept 2 e) (one_run next by g (get_or kept 3 e) t) (begins 2 (g + g) (omega arith) (omega arith))
        ∙ join_on (g + g + g) g (get_or kept 3 e) t (begins 3 (g + g + g) (omega arith) (omega arith))
        ∙ ap (λ (n : ℕ). list_of F n ++ t) all

    pub four-behind : (r : A) → r ≡ after next (g * by) (get_or kept 3 e) → r ≡ after next (4 * g * by) a
    four-behind r q =
        let all : g * by + 3 * g * by ≡ 4 * g * by = omega (arith, mul_assoc 4 g by, mul_assoc 3 g by) in
        after_on next (g * by) (3 * g * by) a all q (begins 3 (3 * g) (omega arith) refl)

  -- a, and the sums behind it one by one
  pub put_behind : (e : A) (k : ℕ) (o l : List A) {y z : A} → k < length o → l ≡ list_of (λ k. F (suc k)) k ++ drop k o → y ≡ F k → z ≡ after next by y → set l k z ≡ list_of (λ k. F (suc k)) (k + 1) ++ drop (k + 1) o
  put_behind e k o l h r p q =
      ap₂ (λ (m : List A) (z : A). set m k z) r (after_turn next by k a q p ∙ ap F (add-one k)) ∙ write_more (λ k. F (suc k)) e k o h

  pub all_behind : (o l m : List A) (k : ℕ) → length o ≤ k → k ≤ length o → l ≡ list_of (λ k. F (suc k)) k ++ drop k o → length m ≡ suc (length o) → a ∷ l ≡ list_of F (length m)
  all_behind o l m k h r p q =
      let n : length o ≡ k = omega (arith, h, r) in
      ap₂ (λ (x : A) (l : List A). x ∷ l) (after_none next by a) (p ∙ ap (λ (z : List A). list_of (λ k. F (suc k)) k ++ z) (drop_of_length-le o (omega (arith, n))) ∙ append-nil (list_of (λ k. F (suc k)) k))
      ∙ sym (list_cons F k)
      ∙ ap (list_of F) (sym (q ∙ ap suc n))

  -- the first m are there, and those behind them are put
  pub rest_put : (m k n : ℕ) (l y : List A) (x : A) → k + m ≡ n → l ≡ list_of F m → x ≡ after next (m * by) a → y ≡ list_of (λ j. after next (j * by) x) k → l ++ y ≡ list_of F n
  rest_put m k n l y x h e s q =
      let whole : m + k ≡ n = omega (arith, h) in
      ap₂ (λ (u v : List A). u ++ v) e (q ∙ ap (λ (z : A). list_of (λ j. after next (j * by) z) k) s) ∙ runs_join next by a m k ∙ ap (list_of F) whole
