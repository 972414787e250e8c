-- The place of a number in a list. Assumes nothing.
use Rattle.std.proofs.Common.{◌≡◌, ℕ, zero, suc, ◌+◌, ◌<◌, Bool, true, false, cond, List, [], ◌∷◌, ◌++◌, length, get_or, ℤ, sym, refl, ap, ◌∙◌, subst, add-one, arith, le-ltb, lt-ltb}
use Rattle.std.proofs.lemmas.List.FromFn.{length-range_with_len, get_or-range_with_len}
use Rattle.std.specs.Prelude.{Option, Some, None}
use Rattle.std.specs.Option.{MatchOption}
use Rattle.std.specs.List.{range_with_len, AllWithin, HoldsAt}
use native.Mathlib.Decide.{dec_lt}
use Rattle.ranged1d.specs.Numbers.{same}
use Rattle.ranged1d.proofs.Whole.{same_yes, same_no, same_is}
use Rattle.numeric.specs.Marks.{list_of}
use Rattle.numeric.proofs.Lists.{length_of, entry}
use Rattle.ruler.specs.Rule.{index_of}
use Rattle.ruler.specs.Steps.{index_within}

-- where it is not in the first list, it is looked for in the second
index_right : (v : ℤ) (xs ys : List ℤ) → index_of v xs ≡ length xs → index_of v (xs ++ ys) ≡ length xs + index_of v ys
index_right v [] ys e = omega arith
index_right v (x ∷ xs) ys e = go (same x v) refl e (index_right v xs ys)
  where
    go : (t : Bool) → same x v ≡ t → cond t 0 (suc (index_of v xs)) ≡ suc (length xs) → (index_of v xs ≡ length xs → index_of v (xs ++ ys) ≡ length xs + index_of v ys) → cond t 0 (suc (index_of v (xs ++ ys))) ≡ suc (length xs) + index_of v ys
    go true q e rec = absurd (omega arith)
    go false q e rec = omega (arith, rec (omega arith))

-- and where it is in the first, its place is its place there
index_left : (v : ℤ) (xs ys : List ℤ) → index_of v xs < length xs → index_of v (xs ++ ys) ≡ index_of v xs
index_left v [] ys h = absurd (omega arith)
index_left v (x ∷ xs) ys h = go (same x v) h (index_left v xs ys)
  where
    go : (t : Bool) → cond t 0 (suc (index_of v xs)) < suc (length xs) → (index_of v xs < length xs → index_of v (xs ++ ys) ≡ index_of v xs) → cond t 0 (suc (index_of v (xs ++ ys))) ≡ cond t 0 (suc (index_of v xs))
    go true h rec = refl
    go false h rec = ap suc (rec (omega arith))

module _ (v : ℤ) (f : ℕ → ℤ) (k : ℕ) (e : index_of v (list_of f k) ≡ k) where
  seam : index_of v (list_of f (suc k)) ≡ k + cond (same (f k) v) 0 1
  seam = index_right v (list_of f k) (f k ∷ []) (e ∙ sym (length_of f k)) ∙ ap (λ (n : ℕ). n + cond (same (f k) v) 0 1) (length_of f k)

  pub index-more : (f k ≡ v → ⊥) → index_of v (list_of f (k + 1)) ≡ k + 1
  index-more g = rw (add-one k) (seam ∙ rw (same_no (f k) v g) (add-one k))

  here : f k ≡ v → index_of v (list_of f (suc k)) ≡ k
  here h = seam ∙ rw (h, same_yes v v refl) (omega arith)

  pub index_hit : (n : ℕ) → k < n → f k ≡ v → index_of v (list_of f n) ≡ k
  index_hit zero l h = absurd (omega arith)
  index_hit (suc n) l h = go (dec_lt k n) (index_hit n)
    where
      go : Dec (k < n) → (k < n → f k ≡ v → index_of v (list_of f n) ≡ k) → index_of v (list_of f (suc n)) ≡ k
      go (yes u) rec = index_left v (list_of f n) (f n ∷ []) (omega (arith, rec u h, length_of f n)) ∙ rec u h
      go (no u) rec = let d : n ≡ k = omega arith in rw d (here h)

-- what stands at that place; v itself stands for what is past the end
at-index : (v : ℤ) (xs : List ℤ) → get_or xs (index_of v xs) v ≡ v
at-index v [] = refl
at-index v (x ∷ xs) = go (same x v) refl (at-index v xs)
  where
    go : (t : Bool) → same x v ≡ t → get_or xs (index_of v xs) v ≡ v → get_or (x ∷ xs) (cond t 0 (suc (index_of v xs))) v ≡ v
    go true e rec = same_is x v e
    go false e rec = rec

pub index_found : (v : ℤ) (f : ℕ → ℤ) (n : ℕ) → index_of v (list_of f n) < n → f (index_of v (list_of f n)) ≡ v
index_found v f n h = sym (entry f v n (index_of v (list_of f n)) h) ∙ at-index v (list_of f n)

-- the first k numbers are not v, and that is all of them or number k is
pub not_before : (v : ℤ) (f : ℕ → ℤ) (k : ℕ) → ((i : ℕ) → i < k → f i ≡ v → ⊥) → index_of v (list_of f k) ≡ k
not_before v f zero h = refl
not_before v f (suc k) h = subst (λ (n : ℕ). index_of v (list_of f n) ≡ n) (add-one k) (index-more v f k (not_before v f k (λ i l. h i (omega arith))) (h k (omega arith)))

-- number i of the numbers below n
below_is : (n i : ℕ) → i < n → get_or (range_with_len 0 n) i 0 ≡ i
below_is n i h = get_or-range_with_len 0 n i 0 h ∙ omega arith

pub index_first : (v : ℤ) (f : ℕ → ℤ) (n : ℕ) (r : Option ℕ)
    → MatchOption r (AllWithin (λ k. f k ≡ v → ⊥) (range_with_len 0 n) 0 (length (range_with_len 0 n))) (λ i. (i < length (range_with_len 0 n)) × HoldsAt (λ k. f k ≡ v) (range_with_len 0 n) i × AllWithin (λ k. f k ≡ v → ⊥) (range_with_len 0 n) 0 i)
    → r ≡ index_within n (index_of v (list_of f n))
index_first v f n None m =
    let e = not_before v f n (λ i h g. m i 0 (omega arith) (omega (arith, length-range_with_len 0 n)) (ap f (below_is n i h) ∙ g)) in
    rw (e, le-ltb n n (omega arith))
index_first v f n (Some i) m =
    let below : i < n = omega (arith, m.0, length-range_with_len 0 n) in
    let none = not_before v f i (λ j h g. m.2 j 0 (omega arith) h (ap f (below_is n j (omega arith)) ∙ g)) in
    let e = index_hit v f i none n below (sym (ap f (below_is n i below)) ∙ m.1 0) in
    rw (e, lt-ltb i n below)
