-- What the calls on a real stepped axis answer, by the answer of `size`, which they ask first: the laws of Rules, where every number is admitted. Assumes
-- nothing.
use mathlib.Core.Path.{◌≡◌, refl, sym, ap, ◌∙◌}
use mathlib.Core.Bool.{Bool, true, false, cond}
use mathlib.Core.List.{List, [], ◌++◌}
use Prim.Native.Nat.{ℕ, ◌*◌, ◌/◌, ◌≤◌, ◌<◌}
use lib.Dec.{ltb}
use native.Mathlib.Nat.{mul-one}
use native.Mathlib.Omega.{arith}
use borrow.Author.Tests.{ltb-true, ltb-false}
use lib.IntN.{ℤ, ◌-ℤ◌}
use lib.ListN.{length, drop, get_or}
use lib.Ieee.{Float, lt}
use Rattle.ranged1d.specs.Answer.{Answer, given, none, refused}
use Rattle.ranged1d.specs.Admitted.{reading_admitted}
use Rattle.ranged1d.specs.declared.Limit.{Limit}
use Rattle.real.specs.Place.{real_place}
use Rattle.discrete.specs.Index.{no_index, index_by, index_for, pixel_index}
use Rattle.search.proofs.RealOrder.{real-order}
use Rattle.numeric.specs.Marks.{list_of}
use Rattle.numeric.proofs.Lists.{entry, list_ext}
use Rattle.linspace.specs.List.{real, toward, stepped, against}
use Rattle.linspace.specs.Calls.{has_entries, nth, nth_of, step_size, step_from_index, step_values, step_place, step_reading}
use Rattle.linspace.specs.RealSteps.{plus_step, after, all, Shares}
use Rattle.linspace.proofs.Walks.{nth_is, nth_past, entries-are}
use Rattle.linspace.proofs.Axis as axis
use Rattle.linspace.proofs.Axis.{stepped-empty, stepped-few}
use Rattle.linspace.proofs.Ways.{stepped-run}
use Rattle.linspace.proofs.Rules as rules
use Rattle.linspace.proofs.Rules.{once_listed, place_listed}

-- a list without entries has none at any index
none_of_lem : {A : Type 0} (t : Bool) (k : ℕ) → nth_of {A = A} [] (cond t none (given k)) ≡ none
none_of_lem true k = refl
none_of_lem false k = refl

module _ (a b d : Float) where
  abbrev l : List Float
  l = stepped real a b d

  -- the list is a, a after one step, after two, and so on
  pub stepped-are : l ≡ list_of (λ k. after (plus_step d) k a) (length l)
  stepped-are = go (has_entries l) refl
    where
      go : (t : Bool) → has_entries l ≡ t → l ≡ list_of (λ k. after (plus_step d) k a) (length l)
      go true s = rw (stepped-run real real-order a b d s) (entries-are (toward real (lt a b) b) (plus_step d) 65537 a)
      go false s = rw (stepped-empty a b d s) refl

  pub entry_of : (z : Float) (k : ℕ) → k < length l → get_or l k z ≡ after (plus_step d) k a
  entry_of z k h = ap (λ (w : List Float). get_or w k z) stepped-are ∙ entry (λ j. after (plus_step d) j a) z (length l) k h

  -- ---- a count that was given, or refused
  pub sized : {n : ℕ} → step_size real a b d ≡ given n → rules.Counted real a b d n
  sized e = rules.counted_by real a b d refl e

  -- ---- an entry of a list that was counted, or why the list is refused
  abbrev pub told_of : ℕ → ℕ → Float → Answer Float
  told_of n k x = cond (ltb 65536 n) (refused 7) (cond (ltb k n) (given x) none)

  module _ (on : against real a b d ≡ false) {n k : ℕ} {x : Float} (all : n ≡ length l) (at : k < n → x ≡ after (plus_step d) k a) where
    told_is : told_of n k x ≡ once_listed (step_size real a b d) (nth l k)
    told_is = go (ltb 65536 n) refl (ltb k n) refl
      where
        counted : ltb 65536 n ≡ false → given (length l) ≡ step_size real a b d
        counted e = axis.size_is a b d on (omega (arith, all, ltb-false 65536 n e))

        go : (t : Bool) → ltb 65536 n ≡ t → (u : Bool) → ltb k n ≡ u → cond t (refused 7) (cond u (given x) none) ≡ once_listed (step_size real a b d) (nth l k)
        go true e u h = ap (λ (s : Answer ℕ). once_listed s (nth l k)) (axis.size_long a b d on (omega (arith, all, ltb-true 65536 n e)))
        go false e true h =
            let i : k < length l = omega (arith, all, ltb-true k n h) in
            ap given (at (ltb-true k n h) ∙ sym (entry_of a k i))
            ∙ sym (nth_is l k a i)
            ∙ ap (λ (s : Answer ℕ). once_listed s (nth l k)) (counted e)
        go false e false h = sym (nth_past l k (omega (arith, all, ltb-false k n h))) ∙ ap (λ (s : Answer ℕ). once_listed s (nth l k)) (counted e)

    pub entry_told : told_of n k x ≡ step_from_index real a b d k
    entry_told = told_is ∙ rules.from_is real a b d refl refl k

  -- ---- `from_index`, of a list that is refused or empty
  pub from-against : against real a b d ≡ true → (k : ℕ) → ◌≡◌ {A = Answer Float} (refused 6) (step_from_index real a b d k)
  unfolding step_from_index
  from-against e k = rw e refl

  pub from_empty : against real a b d ≡ false → has_entries l ≡ false → (k : ℕ) → ◌≡◌ {A = Answer Float} none (step_from_index real a b d k)
  unfolding step_from_index
  from_empty e s k = rw (e, stepped-empty a b d s) refl

  -- ---- `values`
  pub values-written : (old : List Float) {n : ℕ} → step_size real a b d ≡ given n → n ≤ length old → step_values real a b d old ≡ (given n, list_of (λ k. after (plus_step d) (k * 1) a) n ++ drop n old)
  values-written old {n} e h =
      sym (rules.values-written real a b d refl old e h)
      ∙ ap (λ (z : List Float). (given n, z ++ drop n old)) (stepped-are ∙ list_ext (λ k. after (plus_step d) k a) (λ k. after (plus_step d) (k * 1) a) (length l) (λ k g. rw (mul-one k) refl))
      ∙ ap (λ (z : ℕ). (given n, list_of (λ k. after (plus_step d) (k * 1) a) z ++ drop n old)) (sym (sized e).all)

  -- ---- `map`
  module _ (v : Float) (limit : Limit) where
    pub place_by : {s : Answer ℕ} {r : Answer ℤ} → step_size real a b d ≡ s → real_place a b v limit ≡ r → place_listed r s ≡ step_place real a b d v limit
    unfolding real_place
    place_by h e = rules.place_is real a b d refl h v limit e

  -- ---- `unmap`
  module _ (x : ℤ) (limit : Limit) (p : reading_admitted x limit ≡ true) where
    reading_by : {s : Answer ℕ} → step_size real a b d ≡ s → once_listed s (nth_of l (pixel_index x limit (length l))) ≡ step_reading real a b d x limit
    reading_by h = rules.reading_is real a b d refl h x limit p

    pub reading-against : against real a b d ≡ true → ◌≡◌ {A = Answer Float} (refused 6) (step_reading real a b d x limit)
    reading-against e = reading_by (sym (axis.size-against a b d e))

    pixel_read : (n : ℕ) → pixel_index x limit n ≡ index_for (x -ℤ limit.0) (limit.1 -ℤ limit.0) n
    unfolding pixel_index
    pixel_read n = rw p refl

    pub reading-empty : against real a b d ≡ false → has_entries l ≡ false → ◌≡◌ {A = Answer Float} none (step_reading real a b d x limit)
    unfolding index_for
    reading-empty e s =
        let w = limit.1 -ℤ limit.0 in
        sym (ap (λ (z : List Float). nth_of z (pixel_index x limit (length z))) (stepped-empty a b d s)
        ∙ ap (nth_of []) (pixel_read 0)
        ∙ none_of_lem (no_index (x -ℤ limit.0) w 0) (index_by (x -ℤ limit.0) w 0))
        ∙ reading_by (sym (axis.size_is a b d e (rw (stepped-empty a b d s) (omega arith))))

    -- by the share of the list that the pixel is past
    pub reading_told : against real a b d ≡ false → {n k share : ℕ} {y : Float} → n ≡ length l → (k < n → y ≡ after (plus_step d) k a) → k ≡ n * share / all → Shares (x -ℤ limit.0) (limit.1 -ℤ limit.0) share
        → told_of n k y ≡ step_reading real a b d x limit
    reading_told on {k = k} {share = share} e at f w =
        told_is on e at
        ∙ ap (once_listed (step_size real a b d)) (ap (nth l) (f ∙ ap (λ (n : ℕ). n * share / all) e) ∙ sym (ap (nth_of l) (pixel_read (length l)) ∙ w.read l (stepped-few a b d)))
        ∙ reading_by refl
