-- What `index_of` on a real stepped axis answers, return by return. Assumes nothing.
use mathlib.Core.Path.{◌≡◌, refl, sym, ap, subst, ◌∙◌}
use mathlib.Core.Bool.{Bool, true, false, not, ◌||◌, and-false}
use mathlib.Core.List.{List, []}
use Prim.Native.Nat.{ℕ, zero, suc, ◌≤◌, ◌<◌}
use native.Mathlib.Omega.{arith}
use borrow.Author.Tests.{lt-ltb, le-ltb}
use lib.Dec.{T}
use lib.ListN.{length, get_or}
use lib.Ieee.{Float, nan, inf, fin, binary64, fits, is_nan, add, lt, eq}
use Rattle.linspace.proofs.Ways.{leading, runs, stepped-run}
use Rattle.ranged1d.specs.Answer.{Answer, refused}
use Rattle.ranged1d.specs.Numbers.{every}
use Rattle.ranged1d.proofs.Bools.{or_right}
use Rattle.real.proofs.Exact.{eq_self}
use Rattle.real.proofs.Signs.{zero_of, zeros_equal}
use Rattle.search.specs.Search.{reals}
use Rattle.search.specs.Search as rule
use Rattle.search.specs.Lists.{ascends, searchable, real_search}
use Rattle.search.specs.Settled.{settled, settled_nan, for_nan}
use Rattle.search.specs.Steps.{PlaceOf}
use Rattle.search.specs.Lists as in_list
use Rattle.search.specs.declared.RoundingMethod.{RoundingMethod}
use Rattle.search.specs.declared.RoundingMethod.TheVariants.{Exact, Ceil, Floor, Round}
use Rattle.search.proofs.Orders.{Order, way}
use Rattle.search.proofs.RealOrder.{real-order}
use Rattle.search.proofs.Mirror.{add_comm_float}
use Rattle.search.proofs.Settles.{settles}
use Rattle.search.proofs.Lists.{sorted, ordinary}
use Rattle.search.proofs.Halves.{enclosed, beneath}
use Rattle.search.proofs.Rules.{nan_answered}
use Rattle.linspace.specs.List.{real, entries, toward, stepped, against}
use Rattle.linspace.specs.Calls.{has_entries, step_index_of}
use Rattle.linspace.specs.RealSteps.{plus_step, Parted}
use Rattle.linspace.proofs.Walks.{entries_on, entries_off, entry-passes, entries_none}
use Rattle.linspace.proofs.Axis.{stepped-empty, stepped-total}
use Rattle.linspace.proofs.Counts.{entry_of}
use Rattle.linspace.proofs.RealList.{run-ascends}

-- ---- a sum that is a number is one of numbers
pub augend : (x d : Float) → eq (add binary64 x d) (add binary64 x d) ≡ true → eq x x ≡ true
unfolding add eq is_nan
augend nan d h = h
augend (inf true) d h = refl
augend (inf false) d h = refl
augend (fin s m e) d h = eq_self (fin s m e) tt

summand : (x d : Float) → eq (add binary64 x d) (add binary64 x d) ≡ true → eq d d ≡ true
summand x d h = augend d x (subst (λ (z : Float). eq z z ≡ true) (add_comm_float x d) h)

-- ---- where there is an entry
module _ (a b d : Float) (s : has_entries (stepped real a b d) ≡ true) where
  -- a step that does not lead away leads on
  pub onward : against real a b d ≡ false → in_list.toward (lt a b) lt (zero_of false) d ≡ true
  onward e = let r = runs real real-order a b d s in leading real real-order a b d (lt a b) r.0 (summand a d ((way real-order (lt a b)).left (plus_step d a) b r.1)) (zeros_equal false false) e

  -- b is a number
  pub end-number : eq b b ≡ true
  end-number = (way real-order (lt a b)).right a b (runs real real-order a b d s).0

-- ---- every entry passes the test of the walk
every-entry : {A : Type 0} (passes : A → Bool) (next : A → A) (q : A → Bool) → ((x : A) → passes x ≡ true → q x ≡ true) → (n : ℕ) (x : A) → every q (entries passes next n x) ≡ true
every-entry passes next q f zero x = ap (every q) (entries_none passes next 0 x refl)
every-entry passes next q f (suc n) x = go (passes x) refl (every-entry passes next q f n (next x))
  where
    go : (t : Bool) → passes x ≡ t → every q (entries passes next n (next x)) ≡ true → every q (entries passes next (suc n) x) ≡ true
    go true p r = ap (every q) (entries_on passes next n x p) ∙ rw (f x p, r) refl
    go false p r = ap (every q) (entries_off passes next (suc n) x p)

-- ---- the list of an axis that can be searched
module _ (a b d : Float) where
  abbrev l : List Float
  l = stepped real a b d

  abbrev rises : Bool
  rises = lt a b

  abbrev w : Order Float (in_list.toward rises lt) eq
  w = way real-order rises

  module _ (f : T (fits binary64 a)) (e : against real a b d ≡ false) (s : has_entries l ≡ true) (few : length l ≤ 65536) where
    list_ascends : ascends (in_list.toward rises lt) l ≡ true
    list_ascends =
        ap (ascends (in_list.toward rises lt)) (stepped-run real real-order a b d s)
        ∙ run-ascends rises b d 65537 a f (onward a b d s e) (omega (arith, few, stepped-total a b d s))

    list_own : every (λ z. eq z z) l ≡ true
    list_own =
        ap (every (λ z. eq z z)) (stepped-run real real-order a b d s)
        ∙ every-entry (toward real rises b) (plus_step d) (λ z. eq z z) (λ x p. w.left x b p) 65537 a

    list_searched : searchable reals l ≡ true
    unfolding searchable
    list_searched = rw list_own (go rises list_ascends)
      where
        go : (t : Bool) → ascends (in_list.toward t lt) l ≡ true → (ascends lt l || ascends (λ x y. lt y x) l) ≡ true
        go true h = rw h refl
        go false h = or_right (ascends lt l) (ascends (λ x y. lt y x) l) h

    -- a NaN
    pub index_nan : (v : Float) (method : RoundingMethod) → v ≡ nan → settled_nan method (length l) ≡ step_index_of real a b d v method
    unfolding real_search step_index_of
    index_nan v method z = nan_answered method l list_searched ∙ rw (list_searched, e, le-ltb 65536 (length l) few, z) refl

    -- any other target, by its place
    module _ (v : Float) (self : eq v v ≡ true) (method : RoundingMethod) (n : ℕ) (left right : Float) (r : Parted (toward real rises b) (plus_step d) 65537 a (toward real rises v) n left right) where
      inside : n ≤ length l
      inside = omega (arith, r.going.walked.rest, stepped-total a b d s)

      here : n < length l → right ≡ get_or l n v
      here h = r.going.walked.at ∙ sym (entry_of a b d v n h)

      place : PlaceOf (in_list.toward rises lt) l v v n
      place = record {
        order = omega arith;
        within = inside;
        before = λ k h. subst (λ (z : Float). in_list.toward rises lt z v ≡ true) (sym (entry_of a b d v k (omega (arith, h, inside)))) (r.going.front k h);
        from = λ k h m. (beneath w l v v (sorted w v l list_ascends) 0 (length l) n (enclosed w l v v) (omega arith) (omega (arith, h, m)) (stop (omega (arith, h, m)))).from k h m;
      }
        where
          stop : n < length l → in_list.toward rises lt (get_or l n v) v ≡ false
          stop h =
              let g : n < length (entries (toward real rises b) (plus_step d) 65537 a) = omega (arith, h, stepped-total a b d s) in
              subst (λ (z : Float). in_list.toward rises lt z v ≡ false) (here h)
              (r.stopped (omega (arith, h, few)) (subst (λ (z : Float). toward real rises b z ≡ true) (sym r.going.walked.at) (entry-passes (toward real rises b) (plus_step d) 65537 a n g)))

      pub index_found : settled reals method rises (length l) n left v right ≡ step_index_of real a b d v method
      unfolding step_index_of
      index_found =
          sym (settles reals v real-order rises method l n left right (sorted w v l list_ascends) (ordinary eq v l list_own) self place here (λ j q. r.going.last j q ∙ sym (entry_of a b d v j (omega (arith, q, inside)))))
          ∙ rw (e, le-ltb 65536 (length l) few, self) refl

  module _ (v : Float) (method : RoundingMethod) where
    pub index-against : against real a b d ≡ true → ◌≡◌ {A = Answer ℕ} (refused 6) (step_index_of real a b d v method)
    unfolding step_index_of
    index-against e = rw e refl

    pub index_long : against real a b d ≡ false → 65536 < length l → ◌≡◌ {A = Answer ℕ} (refused 7) (step_index_of real a b d v method)
    unfolding step_index_of
    index_long e h = rw (e, lt-ltb 65536 (length l) h) refl

    -- an empty list
    pub index-empty : against real a b d ≡ false → has_entries l ≡ false → settled_nan method 0 ≡ step_index_of real a b d v method
    unfolding step_index_of settled_nan
    index-empty e s = rw (e, stepped-empty a b d s, and-false (not (eq v v))) (go method)
      where
        go : (m : RoundingMethod) → for_nan m ≡ rule.search reals v m []
        go Exact = refl
        go Ceil = refl
        go Floor = refl
        go Round = refl
