-- The list of marks, one mark at a time: counting it, writing it, and what the call answers for it. Assumes nothing.
use mathlib.Core.Path.{◌≡◌, refl, sym, ap, ◌∙◌}
use mathlib.Core.Bool.{Bool, true, false, cond}
use mathlib.Core.List.{List, [], ◌∷◌, ◌++◌}
use Prim.Native.Nat.{ℕ, zero, suc, ◌+◌, ◌-◌, ◌≤◌, ◌<◌}
use native.Mathlib.Numerals.{add-one}
use native.Mathlib.Omega.{arith}
use borrow.Author.Tests.{lt-ltb, le-ltb}
use lib.Dec.{ltb}
use lib.ListN.{length, get_or, set, take, drop, length-take}
use lib.Seq.{drop-cons, take-suc, take_all}
use lib.Ieee.{Float, nan}
use Rattle.ranged1d.specs.Answer.{given, refused, list_written}
use Rattle.ranged1d.proofs.Answers.{too_short, all-written}
use Rattle.ranged1d.proofs.Pieces.{put_next}
use Rattle.std.proofs.lemmas.List.{take_more, take_more_set}
use Rattle.rounding.specs.Operations.{◌⊕◌}
use Rattle.keypoints.specs.Marks.{passes, shifted, marks_from, put_unless}
use Rattle.keypoints.specs.declared.Run.{Run}

module _ (r : Run) where
  pub goes : (n : ℕ) (x : Float) → passes r x ≡ true → marks_from r (suc n) x ≡ (shifted r x ⊕ r.base) ∷ marks_from r n (shifted r x ⊕ r.step)
  unfolding marks_from
  goes n x h = rw h

  pub ends : (n : ℕ) (x : Float) → passes r x ≡ false → marks_from r n x ≡ []
  unfolding marks_from
  ends zero x h = refl
  ends (suc n) x h = rw h

  -- ---- counting: k marks are counted, and y is the distance of the next
  pub count-more : (k : ℕ) (y : Float) → k < 2001 → passes r y ≡ true → length (marks_from r (2001 - k) y) ≡ 1 + length (marks_from r (2001 - (k + 1)) (shifted r y ⊕ r.step))
  count-more k y left h = let e : 2001 - k ≡ suc (2001 - (k + 1)) = omega arith in rw (e, goes (2001 - (k + 1)) y h) (omega arith)

  pub count_ends : (k : ℕ) (y : Float) → passes r y ≡ false → length (marks_from r (2001 - k) y) ≡ 0
  count_ends k y h = rw (ends (2001 - k) y h)

  pub none_left : (k : ℕ) (y : Float) → 2001 ≤ k → length (marks_from r (2001 - k) y) ≡ 0
  unfolding marks_from
  none_left k y h = let z : 2001 - k ≡ 0 = omega arith in rw z

  pub few : (n : ℕ) (x : Float) → length (marks_from r n x) ≤ n
  unfolding marks_from
  few zero x = omega arith
  few (suc n) x = go (passes r x) (few n (shifted r x ⊕ r.step))
    where
      go : (b : Bool) → length (marks_from r n (shifted r x ⊕ r.step)) ≤ n → length (cond b ((shifted r x ⊕ r.base) ∷ marks_from r n (shifted r x ⊕ r.step)) []) ≤ suc n
      go true h = omega arith
      go false h = omega arith

  -- ---- writing: the first k marks of the list l are written, and y is the distance of the next
  module _ (l : List Float) (k : ℕ) (y : Float) (inside : k < length l) (left : k < 2001) (rest : drop k l ≡ marks_from r (2001 - k) y) where
    split : get_or l k nan ∷ drop (suc k) l ≡ marks_from r (suc (2001 - (k + 1))) y
    split = let e : 2001 - k ≡ suc (2001 - (k + 1)) = omega arith in sym (drop-cons l k nan inside) ∙ rest ∙ rw e

    pub both : (get_or l k nan ≡ shifted r y ⊕ r.base) × (drop (suc k) l ≡ marks_from r (2001 - (k + 1)) (shifted r y ⊕ r.step))
    both = go (passes r y) refl
      where
        go : (b : Bool) → passes r y ≡ b → (get_or l k nan ≡ shifted r y ⊕ r.base) × (drop (suc k) l ≡ marks_from r (2001 - (k + 1)) (shifted r y ⊕ r.step))
        go true h = let s = split ∙ goes (2001 - (k + 1)) y h in (cc, cc)
        go false h =
            let s = split ∙ ends (suc (2001 - (k + 1))) y h in
            let z : ◌≡◌ {A = ℕ} 0 1 = cc in
            absurd (let n : ⊥ = omega arith in n)

    pub rest_again : drop (k + 1) l ≡ marks_from r (2001 - (k + 1)) (shifted r y ⊕ r.step)
    rest_again = ap (λ (n : ℕ). drop n l) (add-one k) ∙ both.1

    pub write_more : (z : Float) (o : List Float) → z ≡ shifted r y → k < length o → set (take k l ++ drop k o) k (z ⊕ r.base) ≡ take (k + 1) l ++ drop (k + 1) o
    write_more z o e h =
        let n : length (take k l) ≡ k = simp length-take (omega arith) in
        put_next nan (take k l) (z ⊕ r.base) k o n h
        ∙ ap (λ (t : List Float). t ++ drop (k + 1) o) (ap (λ (w : Float). take k l ++ (w ∷ [])) (ap (λ (w : Float). w ⊕ r.base) e ∙ sym both.0) ∙ sym (ap (λ (n : ℕ). take n l) (add-one k) ∙ take-suc l k nan inside))

    -- of a list whose first k entries are those, whatever stands behind
    pub front_more : (o : List Float) → k < length o → take k o ≡ take k l → take (k + 1) (set o k (shifted r y ⊕ r.base)) ≡ take (k + 1) l
    front_more o h e = take_more_set o k (shifted r y ⊕ r.base) h ∙ rw (e, sym both.0) (sym (take_more l k nan inside))

-- as many entries as the list has, the same as its first ones, are the list
pub all_written : (k : ℕ) (o l : List Float) → take k o ≡ take k l → length o ≤ k → length l ≤ k → o ≡ l
all_written k o l e a b = sym (take_all k o a) ∙ e ∙ take_all k l b

-- ---- the call, for a list l
module _ (l old : List Float) where
  pub too_many : 2000 < length l → put_unless (ltb 2000 (length l)) l old ≡ (refused 17, old)
  too_many h = rw (lt-ltb 2000 (length l) h)

  few_enough : length l ≤ 2000 → put_unless (ltb 2000 (length l)) l old ≡ list_written l old
  few_enough h = rw (le-ltb 2000 (length l) h)

  pub no_room : length l ≤ 2000 → length old < length l → put_unless (ltb 2000 (length l)) l old ≡ (refused 13, old)
  no_room h s = few_enough h ∙ sym (too_short l old (length l) refl s)

  pub room : length l ≤ 2000 → length l ≤ length old → put_unless (ltb 2000 (length l)) l old ≡ (given (length l), l ++ drop (length l) old)
  room h s = few_enough h ∙ sym (all-written l old (length l) refl s)

-- what `count` goes by, and the answers to a list
pub ruleset counts = (count-more, count_ends, none_left)

pub ruleset by_length = (too_many, no_room, room)
