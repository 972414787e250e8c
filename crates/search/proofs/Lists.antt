-- Lists that are walked: their entries, their order, and which of them can be searched. Assumes nothing.
use mathlib.Core.Path.{◌≡◌, refl, sym, ap, subst, ◌∙◌}
use mathlib.Core.Bool.{Bool, true, false, true≢false, ◌&&◌, ◌||◌, and-true, and-false, and_self, and_assoc, or-false}
use mathlib.Core.List.{List, [], ◌∷◌}
use Prim.Native.Nat.{ℕ, zero, suc, ◌+◌, ◌-◌, ◌≤◌, ◌<◌}
use native.Mathlib.Omega.{arith}
use native.Mathlib.Decide.{dec_lt}
use lib.ListN.{length, get_or, take, drop, length-drop}
use lib.Seq.{take_all}
use Rattle.ranged1d.specs.Numbers.{every}
use Rattle.ranged1d.proofs.Bools.{both_true}
use Rattle.search.specs.Search.{Numbers}
use Rattle.search.specs.Lists.{toward, goes_on, ascends, searchable}
use Rattle.search.specs.Steps.{rises_first, PlaceOf}
use Rattle.std.specs.Prelude.{MatchBool}
use Rattle.std.specs.List.{AllWithin, HoldsAt}
use Rattle.std.specs.List.Sorted.{IsPartitionedBy, IsPartitionPoint}
use Rattle.search.proofs.Orders.{Order, Between, way}
use Rattle.search.proofs.Settles.{Sorted, Ordinary}

module _ {A : Type 0} where
  -- an entry that there is does not depend on what stands for none
  pub entry_any : (l : List A) (i : ℕ) (d d' : A) → i < length l → get_or l i d ≡ get_or l i d'
  entry_any [] i d d' h = absurd (omega (arith, h))
  entry_any (x ∷ xs) zero d d' h = refl
  entry_any (x ∷ xs) (suc i) d d' h = entry_any xs i d d' (omega (arith, h))

  -- ---- a test of every entry
  pub every_is : (p : A → Bool) (l : List A) (r : Bool)
      → MatchBool r (AllWithin (λ x. p x ≡ true) l 0 (length l)) ((k : ℕ) × (k < length l) × HoldsAt (λ x. p x ≡ false) l k) → r ≡ every p l
  every_is p [] true m = refl
  every_is p [] false (k, h, m) = absurd (omega (arith, h))
  every_is p (x ∷ xs) true m = rw (m 0 x (omega arith) (omega arith)) (every_is p xs true (λ k d g h. m (suc k) d (omega arith) (omega (arith, h))))
  every_is p (x ∷ xs) false (zero, h, m) = rw (m x) refl
  every_is p (x ∷ xs) false (suc k, h, m) = sym (rw (← every_is p xs false (k, omega (arith, h), m)) (and-false (p x)))

  -- ---- the order, from entry k on
  module _ (lt : A → A → Bool) where
    -- two parts that share an entry
    ascends-cut : (l : List A) (n : ℕ) → n < length l → ascends lt l ≡ (ascends lt (take (suc n) l) && ascends lt (drop n l))
    ascends-cut [] n h = absurd (omega (arith, h))
    ascends-cut (x ∷ xs) zero h = refl
    ascends-cut (x ∷ []) (suc n) h = absurd (omega (arith, h))
    ascends-cut (x ∷ (y ∷ ys)) (suc n) h =
        ap (λ (b : Bool). lt x y && b) (ascends-cut (y ∷ ys) n (omega (arith, h)))
        ∙ sym (and_assoc (lt x y) (ascends lt (take (suc n) (y ∷ ys))) (ascends lt (drop n (y ∷ ys))))

-- ---- what an ordered list is: each entry comes before every later one, and where there are two, every entry equals itself
module _ {A : Type 0} {lt eq : A → A → Bool} (o : Order A lt eq) (d : A) where
  goes_before : (x : A) (l : List A) → goes_on lt x l ≡ true → (k : ℕ) → k < length l → lt x (get_or l k d) ≡ true
  goes_before x [] g k h = absurd (omega (arith, h))
  goes_before x (y ∷ ys) g zero h = (both_true (lt x y) (goes_on lt y ys) g).0
  goes_before x (y ∷ ys) g (suc k) h =
      o.trans x y (get_or ys k d) (both_true (lt x y) (goes_on lt y ys) g).0 (goes_before y ys (both_true (lt x y) (goes_on lt y ys) g).1 k (omega (arith, h)))

  goes_on_lem : (x : A) (l : List A) → goes_on lt x l ≡ true → ascends lt l ≡ true
  goes_on_lem x [] g = refl
  goes_on_lem x (y ∷ ys) g = (both_true (lt x y) (goes_on lt y ys) g).1

  pub sorted : (l : List A) → ascends lt l ≡ true → Sorted lt l d
  sorted [] a j k h m = absurd (omega (arith, h, m))
  sorted (x ∷ xs) a j zero h m = absurd (omega (arith, h))
  sorted (x ∷ xs) a zero (suc k) h m = goes_before x xs a k (omega (arith, m))
  sorted (x ∷ xs) a (suc j) (suc k) h m = sorted xs (goes_on_lem x xs a) j k (omega (arith, h)) (omega (arith, m))

  selves : (x : A) (l : List A) → eq x x ≡ true → goes_on lt x l ≡ true → every (λ z. eq z z) l ≡ true
  selves x [] e g = refl
  selves x (y ∷ ys) e g =
      let r : eq y y ≡ true = o.right x y (both_true (lt x y) (goes_on lt y ys) g).0 in
      rw (r, selves y ys r (both_true (lt x y) (goes_on lt y ys) g).1) refl

  pub all_selves : (x y : A) (l : List A) → ascends lt (x ∷ (y ∷ l)) ≡ true → every (λ z. eq z z) (x ∷ (y ∷ l)) ≡ true
  all_selves x y l a =
      let e : eq x x ≡ true = o.left x y (both_true (lt x y) (goes_on lt y l) a).0 in
      rw (e, selves x (y ∷ l) e a) refl

-- the entries that come before a target stand before all others
module _ {A : Type 0} {lt eq : A → A → Bool} (o : Order A lt eq) (l : List A) (t : A) where
  pub parted : ascends lt l ≡ true → IsPartitionedBy (λ x. lt x t) l
  parted a i j d le within e = go (dec_lt i j)
    where
      go : Dec (i < j) → lt (get_or l i d) t ≡ true
      go (yes h) = o.trans (get_or l i d) (get_or l j d) t (sorted o d l a i j h within) e
      go (no h) = subst (λ (k : ℕ). lt (get_or l k d) t ≡ true) (omega (arith, le, h)) e

pub place_of : {A : Type 0} (lt : A → A → Bool) (l : List A) (t : A) (i : ℕ) → i ≤ length l → IsPartitionPoint (λ x. lt x t ≡ true) (λ x. lt x t ≡ false) l i → PlaceOf lt l t t i
place_of lt l t i within p = record { order = omega arith; within = within; before = λ k h. p.0 k t (omega arith) h; from = λ k h m. p.1 k t h m }

pub ordinary : {A : Type 0} (eq : A → A → Bool) (d : A) (l : List A) → every (λ z. eq z z) l ≡ true → Ordinary eq l d
ordinary eq d [] e k h = absurd (omega (arith, h))
ordinary eq d (x ∷ xs) e zero h = (both_true (eq x x) (every (λ z. eq z z) xs) e).0
ordinary eq d (x ∷ xs) e (suc k) h = ordinary eq d xs (both_true (eq x x) (every (λ z. eq z z) xs) e).1 k (omega (arith, h))

-- ---- 8: a list can be searched exactly where it goes on as its first two entries do, and its one entry, if it has one, equals itself
module _ {A : Type 0} (num : Numbers A) (o : Order A num.less num.equal) where
  abbrev own : A → Bool
  own z = num.equal z z

  -- one entry
  pub searchable-one : (l : List A) (x : A) → 1 ≤ length l → length l < 2 → x ≡ get_or l 0 x → own x ≡ searchable num l
  unfolding searchable
  searchable-one [] x h m e = absurd (omega (arith, h))
  searchable-one (y ∷ []) x h m e = rw e (sym (and-true (own y && true) ∙ and-true (own y)))
  searchable-one (y ∷ (z ∷ l)) x h m e = absurd (omega (arith, m))

  -- more than one
  two : (x y : A) (ys : List A) (rises : Bool) → num.less x y ≡ rises
      → (ascends num.less (x ∷ (y ∷ ys)) || ascends (λ v w. num.less w v) (x ∷ (y ∷ ys))) ≡ ascends (toward rises num.less) (x ∷ (y ∷ ys))
  two x y ys true e = rw (e, o.asym x y e) (or-false (goes_on num.less y ys))
  two x y ys false e = rw e refl

  pub searchable_is : (l : List A) → (length l ≡ 1 → ⊥) → searchable num l ≡ ascends (toward (rises_first num.less l) num.less) l
  unfolding searchable
  searchable_is [] h = refl
  searchable_is (x ∷ []) h = absurd (h refl)
  searchable_is (x ∷ (y ∷ ys)) h =
      ap (λ (b : Bool). every own (x ∷ (y ∷ ys)) && b) (two x y ys (num.less x y) refl) ∙ go (ascends (toward (num.less x y) num.less) (x ∷ (y ∷ ys))) refl
    where
      go : (b : Bool) → ascends (toward (num.less x y) num.less) (x ∷ (y ∷ ys)) ≡ b → (every own (x ∷ (y ∷ ys)) && b) ≡ b
      go true a = rw (all_selves (way o (num.less x y)) x x y ys a) refl
      go false a = and-false (every own (x ∷ (y ∷ ys)))

  -- every entry of a list that can be searched equals itself
  pub searchable_own : (l : List A) → searchable num l ≡ true → every own l ≡ true
  unfolding searchable
  searchable_own l h = (both_true (every own l) (ascends num.less l || ascends (λ v w. num.less w v) l) h).0

-- ---- a walk along the pairs of neighbours of a list: ok says whether all passed were in order
module _ {A : Type 0} (lt : A → A → Bool) where
  pass : {b : Bool} (ok : Bool) (l : List A) (j : ℕ) (x y : A) → suc j < length l → x ≡ get_or l j x → y ≡ get_or l (suc j) y
      → b ≡ (ok && ascends lt (drop j l)) → b ≡ ((ok && lt x y) && ascends lt (drop (suc j) l))
  pass ok [] j x y h p q a = absurd (omega (arith, h))
  pass ok (u ∷ []) j x y h p q a = absurd (omega (arith, h))
  pass ok (u ∷ (v ∷ vs)) zero x y h p q a =
      let first : x ≡ u = p in
      let second : y ≡ v = q in
      rw (first, second) (a ∙ sym (and_assoc ok (lt u v) (goes_on lt v vs)))
  pass ok (u ∷ (v ∷ vs)) (suc j) x y h p q a = pass ok (v ∷ vs) j x y (omega (arith, h)) p q a

  pub walk_on : {b : Bool} (ok : Bool) (l : List A) (k : ℕ) (x y : A) → 1 ≤ k → k < length l → x ≡ get_or l (k - 1) x → y ≡ get_or l k y
      → b ≡ (ok && ascends lt (drop (k - 1) l)) → b ≡ ((ok && lt x y) && ascends lt (drop (k + 1 - 1) l))
  walk_on ok l zero x y h m p q a = absurd (omega (arith, h))
  walk_on ok l (suc j) x y h m p q a =
      let less : suc j - 1 ≡ j = omega arith in
      let more : suc j + 1 - 1 ≡ suc j = omega arith in
      rw more (pass ok l j x y m (rw less at p) q (rw less at a))

  pub walk_done : {b : Bool} (ok : Bool) (r : List A) → length r < 2 → b ≡ (ok && ascends lt r) → ok ≡ b
  walk_done ok [] h a = sym (a ∙ and-true ok)
  walk_done ok (x ∷ []) h a = sym (a ∙ and-true ok)
  walk_done ok (x ∷ (y ∷ ys)) h a = absurd (omega (arith, h))

-- ---- a list by a run of n pairs and the rest
module _ {A : Type 0} (lt : A → A → Bool) (l : List A) where
  run_is : (n : ℕ) → n < length l → ascends lt l ≡ (ascends lt (take (n + 1) l) && ascends lt (drop n l))
  run_is n h = let size : n + 1 ≡ suc n = omega arith in rw size (ascends-cut lt l n h)

  pub run_on : {b : Bool} (n : ℕ) → n < length l → ascends lt (take (n + 1) l) ≡ true → b ≡ ascends lt l → b ≡ ascends lt (take (length l - n) (drop n l))
  run_on n h e a = a ∙ run_is n h ∙ rw (e, take_all (length l - n) (drop n l) (omega (arith, length-drop n l))) refl

  pub run_stop : {b : Bool} (n : ℕ) → n < length l → ascends lt (take (n + 1) l) ≡ false → b ≡ ascends lt l → false ≡ b
  run_stop n h e a = sym (a ∙ run_is n h ∙ rw e refl)

-- ---- a test that holds between any two that pass it: the ends of an ordered list tell of every entry
module _ {A : Type 0} {lt eq : A → A → Bool} (o : Order A lt eq) (d : A) (p : A → Bool) (between : Between lt p) where
  second : (x y : A) (ys : List A) → goes_on lt x (y ∷ ys) ≡ true → p x ≡ true → p (get_or (y ∷ ys) (length ys) d) ≡ true → p y ≡ true
  second x y [] g f e = e
  second x y (z ∷ zs) g f e =
      between x y (get_or (z ∷ zs) (length zs) d) (both_true (lt x y) (goes_on lt y (z ∷ zs)) g).0
      (goes_before o d y (z ∷ zs) (both_true (lt x y) (goes_on lt y (z ∷ zs)) g).1 (length zs) (omega arith)) f e

  ends_of : (x : A) (l : List A) → goes_on lt x l ≡ true → every p (x ∷ l) ≡ (p x && p (get_or (x ∷ l) (length l) d))
  ends_of x [] g = and-true (p x) ∙ sym (and_self (p x))
  ends_of x (y ∷ ys) g =
      ap (λ (b : Bool). p x && b) (ends_of y ys (both_true (lt x y) (goes_on lt y ys) g).1)
      ∙ go (p x) (p y) (p (get_or (y ∷ ys) (length ys) d)) (second x y ys g)
    where
      go : (a b c : Bool) → (a ≡ true → c ≡ true → b ≡ true) → (a && (b && c)) ≡ (a && c)
      go true true c h = refl
      go true false true h = absurd (true≢false (sym (h refl refl)))
      go true false false h = refl
      go false b c h = refl

  pub ends : (l : List A) → (length l ≡ 0 → ⊥) → ascends lt l ≡ true → every p l ≡ (p (get_or l 0 d) && p (get_or l (length l - 1) d))
  ends [] h a = absurd (h refl)
  ends (x ∷ xs) h a = let e : length (x ∷ xs) - 1 ≡ length xs = omega arith in rw e (ends_of x xs a)
