-- What a caller of the whole axis's discrete calls may rely on beyond the rules: the index of a value leads back to it, the value at an
-- index leads back to that, and a pixel between limits that do not meet is read as one of the axis's values or the one after its last.
-- Assumes nothing.
use mathlib.Core.Path.{◌≡◌, refl, sym, ap, ◌∙◌, subst}
use mathlib.Core.Bool.{Bool, true, false, cond, not, ◌&&◌}
use mathlib.Core.List.{[], ◌∷◌}
use Prim.Native.Nat.{ℕ, suc, ◌+◌, ◌-◌, ◌≤◌}
use native.Mathlib.Omega.{arith}
use lib.Dec.{T}
use lib.Ieee.Bits.{is_true}
use lib.IntN.{ℤ, pos, negsuc, nat_abs, ◌+ℤ◌, ◌-ℤ◌, +ℤ_idr}
use lib.Signed.{lt_z, ◌≤ℤ◌}
use borrow.Author.Tests.{leb-true, le-leb, le-ltb, not-false}
use mir.Facts.{and_yes}
use Rattle.ranged1d.specs.Answer.{given, none, ◌when◌, lowest}
use Rattle.ranged1d.specs.Admitted.{whole_admitted, reading_admitted}
use Rattle.ranged1d.specs.declared.Limit.{Limit}
use Rattle.ranged1d.proofs.Answers.{given_is, not-both, not_none, choice}
use Rattle.ranged1d.proofs.Lowest.{given_tests}
use Rattle.ranged1d.proofs.Whole.{sub_cases, minus-far, not_lt, from_start, back_to_start, not_before, no_difference}
use Rattle.discrete.specs.Index.{no_index}
use Rattle.discrete.proofs.Within.{not_zero}
use Rattle.discrete.proofs.Theorems.{Between, index_at_most}
use Rattle.numeric.specs.Whole.{ends_admitted, count_of, is_index, whole_index_of, whole_from_index, whole_reading, read_index, from_index_reasons}
use Rattle.numeric.proofs.Readings.{ends-near}

-- up to one past an admitted value there are only i32s
not_too_high : (a : ℤ) (n k : ℕ) → nat_abs (a +ℤ pos n) ≤ 1000000000 → n ≤ 2000000000 → k ≤ n + 1 → lt_z (pos 2147483647) (a +ℤ pos k) ≡ false
not_too_high (pos m) n k h top l = le-ltb 2147483647 (m + k) (omega arith)
not_too_high (negsuc m) n k h top l = sub_cases k (suc m) (λ z. lt_z (pos 2147483647) z ≡ false) (λ u. refl) (λ u. le-ltb 2147483647 (k - suc m) (omega arith))

-- ---- what a given answer says of the tests that led to it
index_tests : {d k : ℕ} (t u : Bool) → lowest (1 when not t ∷ []) (cond u none (given d)) ≡ given k → (t ≡ true) × (u ≡ false) × (d ≡ k)
index_tests true false e = (refl, refl, given_is e)
index_tests true true e = absurd (not_none e)
index_tests false u e = absurd (not-both (sym e))

-- ---- from a value to its index and back
module _ (a b v : ℤ) where
  pub index-given : ends_admitted a b ≡ true → whole_admitted v ≡ true → a ≤ℤ v → whole_index_of a b v ≡ given (nat_abs (v -ℤ a))
  unfolding whole_index_of
  index-given ends h l = rw (ends, h, ap (λ (z : ℤ). lt_z z a) (sym (from_start a v (is_true _ l.le))) ∙ not_before a (nat_abs (v -ℤ a)))

  pub value_of_index : {k : ℕ} → whole_index_of a b v ≡ given k → whole_from_index a b k ≡ given v
  unfolding whole_index_of whole_from_index
  value_of_index e =
      let tests = index_tests (ends_admitted a b && whole_admitted v) (lt_z v a) e in
      let both = and_yes (ends_admitted a b) (whole_admitted v) (subst T (sym tests.0) tt) in
      let ends : ends_admitted a b ≡ true = is_true _ both.0 in
      let near : nat_abs v ≤ 1000000000 = leb-true _ _ (is_true _ both.1) in
      let there = from_start a v (not_lt v a tests.1) in
      let index : nat_abs (v -ℤ a) ≤ 2000000000 = omega (arith, minus-far v a, near, (ends-near a b ends).0) in
      let i32 = not_too_high a (nat_abs (v -ℤ a)) (nat_abs (v -ℤ a)) (rw there near) index (omega arith) in
      rw (← tests.2, ends, le-leb (nat_abs (v -ℤ a)) 2147483647 (omega arith), i32, there)

-- ---- from an index to its value and back
pub index_of_value : (a b : ℤ) (k : ℕ) {v : ℤ} → whole_from_index a b k ≡ given v → whole_admitted v ≡ true → whole_index_of a b v ≡ given k
unfolding whole_index_of whole_from_index
index_of_value a b k e h =
    let told = given_tests (from_index_reasons a b k) (cond (is_index k) (given (a +ℤ pos k)) none) e in
    rw (not-false (ends_admitted a b) told.0.0, h, ← (choice (is_index k) (a +ℤ pos k) _ told.1).1, not_before a k, back_to_start a (pos k))

-- ---- a pixel between the limits
-- an index up to the count: it is one, and the value there is an i32
counted : (a b : ℤ) (k : ℕ) → ends_admitted a b ≡ true → k ≤ count_of a b → (k ≤ 2147483647) × (lt_z (pos 2147483647) (a +ℤ pos k) ≡ false)
unfolding count_of
counted a b k e l = go (lt_z b a) refl l
  where
    near : (nat_abs a ≤ 1000000000) × (nat_abs b ≤ 1000000000)
    near = ends-near a b e

    go : (t : Bool) → lt_z b a ≡ t → k ≤ cond t 0 (nat_abs (b -ℤ a) + 1) → (k ≤ 2147483647) × (lt_z (pos 2147483647) (a +ℤ pos k) ≡ false)
    go true u l = (omega arith, not_too_high a 0 k (rw (+ℤ_idr a) near.0) (omega arith) (omega arith))
    go false u l =
        let apart : nat_abs (b -ℤ a) ≤ 2000000000 = omega (arith, minus-far b a, near.0, near.1) in
        (omega arith, not_too_high a (nat_abs (b -ℤ a)) k (rw (from_start a b (not_lt b a u)) near.1) apart l)

module _ (a b x : ℤ) (l : Limit) where
  pub reading-between : ends_admitted a b ≡ true → reading_admitted x l ≡ true → (l.1 ≡ l.0 → ⊥) → Between l.0 x l.1
      → (whole_reading a b x l ≡ given (a +ℤ pos (read_index a b x l))) × (read_index a b x l ≤ count_of a b)
  unfolding no_index whole_reading
  reading-between ends film apart between =
      let most = index_at_most x l.0 l.1 (count_of a b) between in
      let high = counted a b (read_index a b x l) ends most in
      (rw (ends, film, not_zero (l.1 -ℤ l.0) (λ e. apart (sym (no_difference l.0 l.1 e))), le-leb _ _ high.0, high.1), most)
