-- The index of v on a whole stepped axis: how many entries come before it, by division, is its place in the list. Assumes nothing.
use mathlib.Core.Path.{◌≡◌, refl, sym, ap, ◌∙◌}
use mathlib.Core.Bool.{Bool, true, false, cond, true≢false}
use Prim.Native.Nat.{ℕ, min, zero, suc, ◌+◌, ◌-◌, ◌*◌, ◌/◌, ◌<◌}
use native.Mathlib.Nat.{suc-mul}
use native.Mathlib.Omega.{arith}
use borrow.Author.Tests.{lt-ltb, le-ltb, ltb-true, ltb-false, leb-true, leb-false, eq-eqb, ne_eqb}
use lib.Dec.{ltb, eqb}
use lib.IntN.{ℤ, pos, negsuc, nat_abs, ◌+ℤ◌, ◌-ℤ◌}
use lib.ListN.{get_or}
use lib.Signed.{lt_z, le_z}
use Rattle.ranged1d.proofs.Whole.{neg-minus, start_to, same_yes}
use Rattle.numeric.specs.Marks.{list_of}
use Rattle.numeric.specs.Calls.{element}
use Rattle.numeric.proofs.Lists.{length_of, entry}
use Rattle.search.specs.Search.{wholes}
use Rattle.search.specs.Lists.{toward, ascends}
use Rattle.search.specs.Settled.{settled}
use Rattle.search.specs.Steps.{PlaceOf}
use Rattle.search.specs.declared.RoundingMethod.{RoundingMethod}
use Rattle.search.proofs.Orders as order
use Rattle.search.proofs.WholeOrder.{whole-order}
use Rattle.search.proofs.Lists.{sorted, ordinary}
use Rattle.search.proofs.Halves.{place_any}
use Rattle.search.proofs.Settles.{settles}
use Rattle.ranged1d.specs.Numbers.{same, every}
use mathlib.Core.List.{List, [], ◌∷◌}
use Rattle.search.specs.Search as rule
use Rattle.linspace.specs.WholeSteps.{past, cut_at, whole_position, Known}
use Rattle.linspace.proofs.Entries.{ascends_list}
use Rattle.linspace.proofs.WholeList.{way, rounded_up, Sloped, element-toward, element_is, known_sloped}

-- v lies so far past a on the way
past_way : (rises : Bool) (a v : ℤ) → v ≡ a +ℤ way rises (cond rises (v -ℤ a) (a -ℤ v))
past_way true a v = sym (start_to a v)
past_way false a v = sym (ap (λ (z : ℤ). a +ℤ z) (neg-minus a v) ∙ start_to a v)

-- nothing that lies on the way comes before what lies at its start or behind it
none-behind : (n : ℕ) (q : ℤ) → le_z q (pos 0) ≡ true → lt_z (pos n) q ≡ false
none-behind n (pos m) h = le-ltb n m (omega (arith, leb-true m 0 h))
none-behind n (negsuc m) h = refl

pub some-past : (q : ℤ) → le_z q (pos 0) ≡ false → (q ≡ pos (nat_abs q)) × (0 < nat_abs q)
some-past (pos m) h = (refl, leb-false m 0 h)
some-past (negsuc m) h = absurd (true≢false h)

module _ {rises : Bool} {a b d : ℤ} {p s : ℕ} (x : Sloped rises a b d p s) (n : ℕ) (v : ℤ) where
  module _ (q : ℤ) (e : v ≡ a +ℤ way rises q) where
    at : (k : ℕ) → k < n → toward rises lt_z (get_or (list_of (element a d) n) k (pos 0)) v ≡ lt_z (pos (k * s)) q
    at k h = rw (entry (element a d) (pos 0) n k h) (element-toward x k v q e)

    place-behind : le_z q (pos 0) ≡ true → PlaceOf (toward rises lt_z) (list_of (element a d) n) (pos 0) v 0
    place-behind l = record {
      order = omega arith;
      within = omega arith;
      before = λ k h. absurd (omega (arith, h));
      from = λ k h m. at k (omega (arith, m, length_of (element a d) n)) ∙ none-behind (k * s) q l;
    }

    module _ (l : le_z q (pos 0) ≡ false) where
      m : ℕ
      m = (nat_abs q - 1) / s + 1

      counted : (k : ℕ) → k < n → toward rises lt_z (get_or (list_of (element a d) n) k (pos 0)) v ≡ ltb k m
      unfolding m
      counted k h = at k h ∙ ap (λ (z : ℤ). lt_z (pos (k * s)) z) (some-past q l).0 ∙ rounded_up k (nat_abs q) s x.moves (some-past q l).1

      place-cut : (t : Bool) → ltb m n ≡ t → PlaceOf (toward rises lt_z) (list_of (element a d) n) (pos 0) v (cond t m n)
      place-cut true c = record {
        order = omega arith;
        within = omega (arith, ltb-true m n c, length_of (element a d) n);
        before = λ k h. counted k (omega (arith, h, ltb-true m n c)) ∙ lt-ltb k m h;
        from = λ k h u. counted k (omega (arith, u, length_of (element a d) n)) ∙ le-ltb k m h;
      }
      place-cut false c = record {
        order = omega arith;
        within = omega (arith, length_of (element a d) n);
        before = λ k h. counted k h ∙ lt-ltb k m (omega (arith, h, ltb-false m n c));
        from = λ k h u. absurd (omega (arith, h, u, length_of (element a d) n));
      }

      place-past : PlaceOf (toward rises lt_z) (list_of (element a d) n) (pos 0) v (cut_at (nat_abs q) s n)
      unfolding m
      place-past = rw (ne_eqb s 0 (λ z. omega (arith, z, x.moves))) (place-cut (ltb m n) refl)

    place : PlaceOf (toward rises lt_z) (list_of (element a d) n) (pos 0) v (cond (le_z q (pos 0)) 0 (cut_at (nat_abs q) s n))
    place = go (le_z q (pos 0)) refl
      where
        go : (t : Bool) → le_z q (pos 0) ≡ t → PlaceOf (toward rises lt_z) (list_of (element a d) n) (pos 0) v (cond t 0 (cut_at (nat_abs q) s n))
        go true l = place-behind l
        go false l = place-past l

  rises_on : ascends (toward rises lt_z) (list_of (element a d) n) ≡ true
  rises_on = ascends_list (toward rises lt_z) (element a d) n (λ k. element-toward x k (element a d (suc k)) (pos (suc k * s)) (element_is x (suc k)) ∙ lt-ltb (k * s) (suc k * s) (omega (arith, suc-mul k s, x.moves)))

cut_min : (i n : ℕ) → cond (ltb i n) i n ≡ min i n
cut_min i n = go (ltb i n) refl
  where
    go : (t : Bool) → ltb i n ≡ t → cond t i n ≡ min i n
    go true e = omega (arith, ltb-true i n e)
    go false e = omega (arith, ltb-false i n e)

-- the place, by the tests that lead to it
module _ (a b d v : ℤ) (n : ℕ) where
  pub position_behind : le_z (past a b v) (pos 0) ≡ true → 0 ≡ whole_position a b d n v
  unfolding whole_position
  position_behind h = rw h refl

  module _ (h : le_z (past a b v) (pos 0) ≡ false) where
    pub position_still : (s : ℕ) → s ≡ nat_abs d → s ≡ 0 → n ≡ whole_position a b d n v
    unfolding whole_position
    position_still s e z = rw (h, eq-eqb (nat_abs d) 0 (sym e ∙ z)) refl

    module _ (q s : ℕ) (far : q ≡ nat_abs (past a b v)) (size : s ≡ nat_abs d) (some : s ≡ 0 → ⊥) where
      by_cut : cond (ltb ((q - 1) / s + 1) n) ((q - 1) / s + 1) n ≡ whole_position a b d n v
      unfolding whole_position
      by_cut = rw (h, ← far, ← size, ne_eqb s 0 some) refl

      pub position_inside : min ((q - 1) / s + 1) n ≡ whole_position a b d n v
      position_inside = sym (cut_min ((q - 1) / s + 1) n) ∙ by_cut

-- of no entries none comes before v
cut-none : (q s : ℕ) → cut_at q s 0 ≡ 0
cut-none q s = go (eqb s 0)
  where
    go : (t : Bool) → cond t 0 (cond (ltb ((q - 1) / s + 1) 0) ((q - 1) / s + 1) 0) ≡ 0
    go true = refl
    go false = rw (le-ltb ((q - 1) / s + 1) 0 (omega arith)) refl

place_none : (a b d v : ℤ) → whole_position a b d 0 v ≡ 0
unfolding whole_position
place_none a b d v = rw (cut-none (nat_abs (past a b v)) (nat_abs d)) (go (le_z (past a b v) (pos 0)))
  where
    go : (t : Bool) → ◌≡◌ {A = ℕ} (cond t 0 0) 0
    go true = refl
    go false = refl

-- a list that is not refused is in order, and the place is v's
module _ {a b d : ℤ} where
  in_order : (n : ℕ) → Known a b d n → ascends (toward (lt_z a b) lt_z) (list_of (element a d) n) ≡ true
  in_order zero known = refl
  in_order (suc n) known = rises_on (known_sloped known (omega arith)) (suc n) (pos 0)

  placed : (n : ℕ) (v : ℤ) → Known a b d n → PlaceOf (toward (lt_z a b) lt_z) (list_of (element a d) n) (pos 0) v (whole_position a b d n v)
  unfolding whole_position
  placed zero v known = rw (place_none a b d v) (record { order = omega arith; within = omega arith; before = λ k h. absurd (omega (arith, h)); from = λ k h u. absurd (omega (arith, u)) })
  placed (suc n) v known = place (known_sloped known (omega arith)) (suc n) v (past a b v) (past_way (lt_z a b) a v)

  pub found : {n : ℕ} (v : ℤ) (method : RoundingMethod) (i : ℕ) (x y : ℤ) → Known a b d n → i ≡ whole_position a b d n v
      → ((j : ℕ) → suc j ≡ i → x ≡ get_or (list_of (element a d) n) j v) → y ≡ get_or (list_of (element a d) n) i v
      → settled wholes method (lt_z a b) n i x v y ≡ rule.search wholes v method (list_of (element a d) n)
  found {n} v method i x y known e xi yi =
      ap (λ (k : ℕ). settled wholes method (lt_z a b) k i x v y) (sym (length_of (element a d) n))
      ∙ sym (settles wholes v whole-order r method l i x y (sorted (order.way whole-order r) v l (in_order n known)) (ordinary same v l (selves l)) (same_yes v v refl) (place_any (toward r lt_z) l (pos 0) v v i (rw e (placed n v known))) (λ h. yi) xi)
    where
      r : Bool
      r = lt_z a b

      l : List ℤ
      l = list_of (element a d) n

      selves : (l : List ℤ) → every (λ x. same x x) l ≡ true
      selves [] = refl
      selves (x ∷ xs) = rw (same_yes x x refl) (selves xs)
