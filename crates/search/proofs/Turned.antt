-- A search of two lists that mirror each other. What mirrors what is any relation that turns comparisons round. Assumes nothing.
use mathlib.Core.Path.{◌≡◌, refl, sym, ap, subst, ◌∙◌}
use mathlib.Core.Bool.{Bool, true, false, cond, ◌&&◌, ◌||◌, or_comm}
use mathlib.Core.List.{List, [], ◌∷◌, map}
use Prim.Native.Nat.{ℕ, suc, ◌<◌}
use native.Mathlib.Omega.{arith}
use native.Mathlib.Decide.{dec_lt}
use borrow.Author.Tests.{lt-ltb, le-ltb}
use lib.Dec.{ltb}
use lib.ListN.{length}
use Rattle.ranged1d.proofs.Bools.{cond_same}
use Rattle.ranged1d.specs.Answer.{Answer, given, none}
use Rattle.ranged1d.specs.Numbers.{every}
use Rattle.search.specs.Search.{Numbers, further, unless_better, best, exact, up, down, nearer, between, index_of, search}
use Rattle.search.specs.Lists.{goes_on, ascends, searchable, is_exact}
use Rattle.search.specs.Mirror.{turned, Each, end, more}
use Rattle.search.specs.declared.RoundingMethod.{RoundingMethod}
use Rattle.search.specs.declared.RoundingMethod.TheVariants.{Exact, Ceil, Floor, Round}

-- y mirrors x
pub record Turns {A : Type 0} (num : Numbers A) (R : A → A → Type 0) : Type 0 where
  pub less_turns : {x x' y y' : A} → R x x' → R y y' → num.less x y ≡ num.less y' x'
  pub equal_turns : {x x' y y' : A} → R x x' → R y y' → num.equal x y ≡ num.equal x' y'
  pub apart_turns : {x x' y y' z z' w w' : A} → R x x' → R y y' → R z z' → R w w'
      → num.less (num.minus x y) (num.minus z w) ≡ num.less (num.minus y' x') (num.minus w' z')

-- the same index and a mirrored entry, or both none
pub data Both {A : Type 0} (R : A → A → Type 0) : Answer (ℕ × A) → Answer (ℕ × A) → Type 0 where
  givens : {k : ℕ} {x y : A} → R x y → Both R (given (k, x)) (given (k, y))
  nones : Both R none none

pub each_map : {A : Type 0} {R S : A → A → Type 0} → ((x y : A) → R x y → S x y) → (l l' : List A) → Each R l l' → Each S l l'
each_map f [] [] end = end
each_map {A = A} {R = R} {S = S} f [] (y ∷ ys) x'' = elim x'' [ ]
each_map {A = A} {R = R} {S = S} f (x ∷ xs) [] x4 = elim x4 [ ]
each_map f (x ∷ xs) (y ∷ ys) (more r e) = more (f x y r) (each_map f xs ys e)

-- a list that is mapped entry for entry
pub each_mapped : {A : Type 0} {R : A → A → Type 0} (f : A → A) → ((x : A) → R (f x) x) → (l : List A) → Each R (map f l) l
each_mapped f r [] = end
each_mapped f r (x ∷ xs) = more (r x) (each_mapped f r xs)

pub each-length : {A : Type 0} {R : A → A → Type 0} (l l' : List A) → Each R l l' → length l ≡ length l'
each-length [] [] end = refl
each-length {A = A} {R = R} [] (y ∷ ys) x'' = elim x'' [ ]
each-length {A = A} {R = R} (x ∷ xs) [] x4 = elim x4 [ ]
each-length (x ∷ xs) (y ∷ ys) (more r e) = ap suc (each-length xs ys e)

module _ {A : Type 0} (R : A → A → Type 0) (p p' : A → Bool) (b b' : A → A → Bool)
    (pp : (x y : A) → R x y → p x ≡ p' y) (bb : (x y z w : A) → R x y → R z w → b x z ≡ b' y w) where
  step : (x y : A) (f f' : Answer (ℕ × A)) → R x y → Both R f f' → (t : Bool)
      → Both R (cond t (unless_better b x f) (further f)) (cond t (unless_better b' y f') (further f'))
  step x y (given (k, z)) (given (k', w)) r (givens s) true = subst (λ (c : Bool). Both R (cond c (given (suc k, z)) (given (0, x))) (cond (b' w y) (given (suc k, w)) (given (0, y)))) (sym (bb z w x y s r)) (go (b' w y))
    where
      go : (c : Bool) → Both R (cond c (given (suc k, z)) (given (0, x))) (cond c (given (suc k, w)) (given (0, y)))
      go true = givens s
      go false = givens r
  step x y none none r nones true = givens r
  step x y (given (k, z)) (given (k', w)) r (givens s) false = givens s
  step x y (given (k, z)) none r x8 t = elim x8 [ ]
  step x y (given (k, z)) (Rattle.ranged1d.specs.Answer.refused _) r x10 t = elim x10 [ ]
  step x y none (given _) r x6 t = elim x6 [ ]
  step x y none (Rattle.ranged1d.specs.Answer.refused _) r x7 t = elim x7 [ ]
  step x y (Rattle.ranged1d.specs.Answer.refused _) _ r x6 t = elim x6 [ ]
  step x y none none r nones false = nones

  pub best-turned : (l l' : List A) → Each R l l' → Both R (best p b l) (best p' b' l')
  best-turned [] [] end = nones
  best-turned [] (y ∷ ys) x'' = elim x'' [ ]
  best-turned (x ∷ xs) [] x4 = elim x4 [ ]
  best-turned (x ∷ xs) (y ∷ ys) (more r e) =
      subst (λ (t : Bool). Both R (cond t (unless_better b x (best p b xs)) (further (best p b xs))) (cond (p' y) (unless_better b' y (best p' b' ys)) (further (best p' b' ys)))) (sym (pp x y r))
      (step x y (best p b xs) (best p' b' ys) r (best-turned xs ys e) (p' y))

-- ---- the searches
module _ {A : Type 0} (num : Numbers A) (R : A → A → Type 0) (T : Turns num R) (l l' : List A) (each : Each R l l') (t t' : A) (rt : R t t') where
  exact-turned : Both R (exact num t l) (exact num t' l')
  exact-turned = best-turned R (λ x. num.equal x t) (λ x. num.equal x t') (λ x y. false) (λ x y. false) (λ x y r. T.equal_turns r rt) (λ x y z w r s. refl) l l' each

  past : (x y : A) → R x y → (num.less t x || num.equal x t) ≡ (num.less y t' || num.equal y t')
  past x y r = rw (T.less_turns rt r, T.equal_turns r rt) refl

  before : (x y : A) → R x y → (num.less x t || num.equal x t) ≡ (num.less t' y || num.equal y t')
  before x y r = rw (T.less_turns r rt, T.equal_turns r rt) refl

  up-turned : Both R (up num t l) (down num t' l')
  up-turned = best-turned R (λ x. num.less t x || num.equal x t) (λ x. num.less x t' || num.equal x t') num.less (λ x y. num.less y x) past (λ x y z w r s. T.less_turns r s) l l' each

  down-turned : Both R (down num t l) (up num t' l')
  down-turned = best-turned R (λ x. num.less x t || num.equal x t) (λ x. num.less t' x || num.equal x t') (λ x y. num.less y x) num.less before (λ x y z w r s. T.less_turns s r) l l' each

  index-turned : (f f' : Answer (ℕ × A)) → Both R f f' → index_of num t f ≡ index_of num t' f'
  index-turned (given (k, x)) (given (k', y)) (givens r) = refl
  index-turned (given (k, x)) none x5 = elim x5 [ ]
  index-turned (given (k, x)) (Rattle.ranged1d.specs.Answer.refused _) x7 = elim x7 [ ]
  index-turned none (given _) x4 = elim x4 [ ]
  index-turned none (Rattle.ranged1d.specs.Answer.refused _) x5 = elim x5 [ ]
  index-turned (Rattle.ranged1d.specs.Answer.refused _) _ x4 = elim x4 [ ]
  index-turned none none nones = refl

  -- which of two neighbours is nearer: i below the target at x, j above it at y
  module _ (i j : ℕ) (x x' y y' : A) (rx : R x x') (ry : R y y') where
    nearer-turned : nearer num t (i, x) (j, y) ≡ nearer num t' (j, y') (i, x')
    nearer-turned = rw (T.apart_turns rt rx ry rt, T.apart_turns ry rt rt rx) (go (dec_lt i j) (dec_lt j i) (num.less (num.minus x' t') (num.minus t' y')) (num.less (num.minus t' y') (num.minus x' t')))
      where
        go : Dec (i < j) → Dec (j < i) → (u v : Bool) → cond (ltb i j) (cond u i j) (cond v j i) ≡ cond (ltb j i) (cond v j i) (cond u i j)
        go (yes h) k u v = rw (lt-ltb i j h, le-ltb j i (omega (arith, h))) refl
        go (no h) (yes k) u v = rw (lt-ltb j i k, le-ltb i j (omega (arith, h))) refl
        go (no h) (no k) u v =
            let e : i ≡ j = omega (arith, h, k) in
            rw (le-ltb j i (omega (arith, k)), le-ltb i j (omega (arith, h))) (cond_same v (sym e) ∙ e ∙ sym (cond_same u e))

  between-turned : (f f' g g' : Answer (ℕ × A)) → Both R f f' → Both R g g' → between num t f g ≡ between num t' g' f'
  between-turned (given (i, x)) (given (i', x')) (given (j, y)) (given (j', y')) (givens r) (givens s) = ap given (nearer-turned i j x x' y y' r s)
  between-turned (given (i, x)) (given (i', x')) none none (givens r) nones = refl
  between-turned none none (given (j, y)) (given (j', y')) nones (givens s) = refl
  between-turned (given (i, x)) (given (i', x')) (given (j, y)) none _ x20 = elim x20 [ ]
  between-turned (given (i, x)) (given (i', x')) (given (j, y)) (Rattle.ranged1d.specs.Answer.refused _) _ x22 = elim x22 [ ]
  between-turned (given (i, x)) (given (i', x')) none (given _) _ x19 = elim x19 [ ]
  between-turned (given (i, x)) (given (i', x')) none (Rattle.ranged1d.specs.Answer.refused _) _ x20 = elim x20 [ ]
  between-turned (given (i, x)) (given (i', x')) (Rattle.ranged1d.specs.Answer.refused _) _ _ x18 = elim x18 [ ]
  between-turned (given (i, x)) none g _ x9 _ = elim x9 [ ]
  between-turned (given (i, x)) (Rattle.ranged1d.specs.Answer.refused _) g _ x11 _ = elim x11 [ ]
  between-turned none (given _) g _ x6 _ = elim x6 [ ]
  between-turned none none (given (j, y)) none _ x14 = elim x14 [ ]
  between-turned none none (given (j, y)) (Rattle.ranged1d.specs.Answer.refused _) _ x16 = elim x16 [ ]
  between-turned none none none (given _) _ x13 = elim x13 [ ]
  between-turned none none none (Rattle.ranged1d.specs.Answer.refused _) _ x14 = elim x14 [ ]
  between-turned none none (Rattle.ranged1d.specs.Answer.refused _) _ _ x12 = elim x12 [ ]
  between-turned none (Rattle.ranged1d.specs.Answer.refused _) g _ x8 _ = elim x8 [ ]
  between-turned (Rattle.ranged1d.specs.Answer.refused _) _ g _ x5 _ = elim x5 [ ]
  between-turned none none none none nones nones = refl

  pub search-turned : (method : RoundingMethod) → search num t (turned method) l ≡ search num t' method l'
  search-turned Exact = index-turned (exact num t l) (exact num t' l') exact-turned
  search-turned Ceil = index-turned (down num t l) (up num t' l') down-turned
  search-turned Floor = index-turned (up num t l) (down num t' l') up-turned
  search-turned Round = between-turned (down num t l) (up num t' l') (up num t l) (down num t' l') down-turned up-turned

pub exact_stays : (method : RoundingMethod) → is_exact (turned method) ≡ is_exact method
exact_stays Exact = refl
exact_stays Ceil = refl
exact_stays Floor = refl
exact_stays Round = refl

-- ---- 8: a list can be searched where its mirror can
pub every-turned : {A : Type 0} {R : A → A → Type 0} (p p' : A → Bool) → ((x x' : A) → R x x' → p x ≡ p' x') → (l l' : List A) → Each R l l' → every p l ≡ every p' l'
every-turned p p' h [] [] end = refl
every-turned {A = A} {R = R} p p' h [] (y ∷ ys) x'' = elim x'' [ ]
every-turned {A = A} {R = R} p p' h (x ∷ xs) [] x4 = elim x4 [ ]
every-turned p p' h (x ∷ xs) (y ∷ ys) (more r e) = rw (h x y r, every-turned p p' h xs ys e) refl

module _ {A : Type 0} (num : Numbers A) (R : A → A → Type 0) (T : Turns num R) where
  goes_turned : (a b : A → A → Bool) → ((x x' y y' : A) → R x x' → R y y' → a x y ≡ b x' y') → (x x' : A) (l l' : List A) → R x x' → Each R l l' → goes_on a x l ≡ goes_on b x' l'
  goes_turned a b h x x' [] [] r end = refl
  goes_turned a b h x x' [] (y' ∷ ys') r x7 = elim x7 [ ]
  goes_turned a b h x x' (y ∷ ys) [] r x7 = elim x7 [ ]
  goes_turned a b h x x' (y ∷ ys) (y' ∷ ys') r (more s e) = rw (h x x' y y' r s, goes_turned a b h y y' ys ys' s e) refl

  ascends-turned : (a b : A → A → Bool) → ((x x' y y' : A) → R x x' → R y y' → a x y ≡ b x' y') → (l l' : List A) → Each R l l' → ascends a l ≡ ascends b l'
  ascends-turned a b h [] [] end = refl
  ascends-turned a b h [] (x' ∷ xs') x3 = elim x3 [ ]
  ascends-turned a b h (x ∷ xs) [] x4 = elim x4 [ ]
  ascends-turned a b h (x ∷ xs) (x' ∷ xs') (more r e) = goes_turned a b h x x' xs xs' r e

  pub searchable-turned : (l l' : List A) → Each R l l' → searchable num l ≡ searchable num l'
  unfolding searchable
  searchable-turned l l' e =
      rw (every-turned (λ x. num.equal x x) (λ x. num.equal x x) (λ x x' r. T.equal_turns r r) l l' e, ascends-turned (λ x y. num.less y x) num.less (λ x x' y y' r s. T.less_turns s r) l l' e, ascends-turned num.less (λ x y. num.less y x) (λ x x' y y' r s. T.less_turns r s) l l' e)
      (ap (λ (b : Bool). every (λ x. num.equal x x) l' && b) (or_comm (ascends (λ x y. num.less y x) l') (ascends num.less l')))
