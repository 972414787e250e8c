-- 02 (g), as specs/Directed states it, and the reading by the tests that lead to each answer. Assumes nothing.
use mathlib.Core.Path.{◌≡◌, refl, sym, ap, ◌∙◌}
use mathlib.Core.Bool.{Bool, true, false, cond, not, ◌&&◌, and-false, or-false}
use mathlib.Core.List.{[], ◌∷◌}
use Prim.Native.Nat.{ℕ, ◌≤◌}
use native.Mathlib.Omega.{arith}
use lib.IntN.{ℤ, pos, negsuc, neg_ℤ, nat_abs, ◌+ℤ◌, ◌-ℤ◌, neg_ℤ-neg_ℤ, neg_ℤ-+ℤ}
use lib.Signed.{lt_z, le_z}
use Rattle.ranged1d.specs.Answer.{Answer, given, none, refused, ◌when◌, lowest, and_then}
use Rattle.ranged1d.specs.Admitted.{ends_admitted, reading_admitted}
use Rattle.ranged1d.specs.declared.Limit.{Limit}
use Rattle.ranged1d.proofs.Whole.{lt_le, neg_lt, neg-far, admitted-neg, less_or_same, same_no, no_difference}
use Rattle.discrete.specs.Index.{no_index, index_for, pixel_index}
use Rattle.discrete.proofs.Within.{not_zero}
use Rattle.discrete.proofs.Theorems.{index-negated}
use Rattle.real.specs.Mirror.{mirrored}
use Rattle.real.proofs.Readings.{pixel_neg, limit-neg, length-neg}
use Rattle.numeric.specs.Whole.{count_of, is_index, above_i32, value_at, whole_reading}
use Rattle.numeric.specs.Directed.{directed_count, directed_value, too_high, too_low, directed_at, directed_from, unread, index, whole_directed, negated_reading, Directed}
use Rattle.numeric.proofs.Readings.{ends-near, not_too_low, read_by}

-- a reading is the value at the pixel's index, where it has one
pub by_index : (a b x : ℤ) (l : Limit) → ends_admitted a b ≡ true → whole_directed a b x l ≡ and_then (pixel_index x l (directed_count a b)) (directed_from a b)
unfolding whole_directed directed_from pixel_index index_for
by_index a b x l e =
    let k = index a b x l in
    rw e (read_by (reading_admitted x l) (unread a b x l) k (10 when too_high a b k ∷ 19 when too_low a b k ∷ []) (directed_at a b k) (directed_from a b) refl)

pub no_directed_off : (a b x : ℤ) (l : Limit) → ends_admitted a b ≡ false → ◌≡◌ {A = Answer ℤ} (refused 1) (whole_directed a b x l)
unfolding whole_directed
no_directed_off a b x l e = rw e refl

-- ---- one that descends: 10 is not met
pub not_too_high : (a : ℤ) (k : ℕ) → nat_abs a ≤ 1000000000 → lt_z (pos 2147483647) (a -ℤ pos k) ≡ false
not_too_high a k near =
    ap (λ (z : ℤ). lt_z (pos 2147483647) (z -ℤ pos k)) (sym (neg_ℤ-neg_ℤ a)) ∙ ap (lt_z (pos 2147483647)) (sym (neg_ℤ-+ℤ (neg_ℤ a) (pos k)))
    ∙ neg_lt (negsuc 2147483646) (neg_ℤ a +ℤ pos k) ∙ not_too_low 2147483646 (neg_ℤ a) k (rw (neg-far a) (omega arith))

-- ---- one that does not: 19 is not met
pub ascending : (a b x : ℤ) (l : Limit) → lt_z b a ≡ false → whole_directed a b x l ≡ whole_reading a b x l
unfolding whole_directed whole_reading count_of directed_value
ascending a b x l up = rw up (go (ends_admitted a b) refl)
  where
    u : Bool
    u = unread a b x l

    k : ℕ
    k = index a b x l

    go : (t : Bool) → ends_admitted a b ≡ t
        → lowest (1 when not t ∷ 2 when not (reading_admitted x l) ∷ 10 when (not u && above_i32 a k) ∷ 19 when (not u && (is_index k && lt_z (a +ℤ pos k) (negsuc 2147483646))) ∷ []) (cond u none (value_at a k))
        ≡ lowest (1 when not t ∷ 2 when not (reading_admitted x l) ∷ 10 when (not u && above_i32 a k) ∷ []) (cond u none (value_at a k))
    go false e = refl
    go true e = rw (not_too_low 2147483646 a k (let n = ends-near a b e in omega arith), and-false (is_index k), and-false (not u))

-- ---- the mirror
twice : (t : Bool) → not (not t) ≡ t
twice true = refl
twice false = refl

other_side : (a b : ℤ) → (a ≡ b → ⊥) → lt_z a b ≡ not (lt_z b a)
other_side a b ne = sym (less_or_same a b ∙ rw (same_no a b ne) (or-false (lt_z a b))) ∙ sym (ap not (lt_le b a) ∙ twice (le_z a b))

value-neg : (a b : ℤ) (k : ℕ) → (a ≡ b → ⊥) → directed_value (neg_ℤ a) (neg_ℤ b) k ≡ neg_ℤ (directed_value a b k)
unfolding directed_value
value-neg a b k ne = rw (neg_lt b a, other_side a b ne) (go (lt_z b a))
  where
    go : (t : Bool) → cond (not t) (neg_ℤ a -ℤ pos k) (neg_ℤ a +ℤ pos k) ≡ neg_ℤ (cond t (a -ℤ pos k) (a +ℤ pos k))
    go true = sym (neg_ℤ-+ℤ a (neg_ℤ (pos k)) ∙ ap (λ (z : ℤ). neg_ℤ a +ℤ z) (neg_ℤ-neg_ℤ (pos k)))
    go false = sym (neg_ℤ-+ℤ a (pos k))

-- by the tests: no value is both too high and too low
turned : (e r i : Bool) (v : ℤ)
    → lowest (1 when not e ∷ 2 when not r ∷ 10 when (i && lt_z v (negsuc 2147483646)) ∷ 19 when (i && lt_z (pos 2147483647) v) ∷ []) (cond i (given (neg_ℤ v)) none)
    ≡ negated_reading (lowest (1 when not e ∷ 2 when not r ∷ 10 when (i && lt_z (pos 2147483647) v) ∷ 19 when (i && lt_z v (negsuc 2147483646)) ∷ []) (cond i (given v) none))
turned false r i v = refl
turned true false i v = refl
turned true true false v = refl
turned true true true (pos n) = go (lt_z (pos 2147483647) (pos n))
  where
    go : (t : Bool) → lowest (19 when t ∷ []) (given (neg_ℤ (pos n))) ≡ negated_reading (lowest (10 when t ∷ []) (given (pos n)))
    go true = refl
    go false = refl
turned true true true (negsuc n) = go (lt_z (negsuc n) (negsuc 2147483646))
  where
    go : (t : Bool) → lowest (10 when t ∷ []) (given (neg_ℤ (negsuc n))) ≡ negated_reading (lowest (19 when t ∷ []) (given (negsuc n)))
    go true = refl
    go false = refl

has_index : (d w : ℤ) (n : ℕ) → (w ≡ pos 0 → ⊥) → no_index d w n ≡ false
unfolding no_index
has_index d w n h = rw (not_zero w h)

mirror : (a b x : ℤ) (l : Limit) → (a ≡ b → ⊥) → (l.0 ≡ l.1 → ⊥) → whole_directed (neg_ℤ a) (neg_ℤ b) (neg_ℤ x) (mirrored l) ≡ negated_reading (whole_directed a b x l)
unfolding whole_directed
mirror a b x l ne pq =
    let d = x -ℤ l.0 in
    let w = l.1 -ℤ l.0 in
    let n = directed_count a b in
    let k = index a b x l in
    let v = directed_value a b k in
    let long : w ≡ pos 0 → ⊥ = λ z. pq (no_difference l.0 l.1 z) in
    rw (
      admitted-neg a,
      admitted-neg b,
      pixel_neg x,
      limit-neg l,
      length-neg l.0 x,
      length-neg l.0 l.1,
      length-neg a b,
      neg-far (b -ℤ a),
      has_index (neg_ℤ d) (neg_ℤ w) n (λ z. long (sym (neg_ℤ-neg_ℤ w) ∙ ap neg_ℤ z)),
      has_index d w n long,
      index-negated d w n,
      value-neg a b k ne,
      neg_lt (negsuc 2147483646) v,
      neg_lt v (pos 2147483647),
    )
    (turned (ends_admitted a b) (reading_admitted x l) (is_index k) v)

pub directed : Directed
directed = record { ascending = ascending; mirror = mirror }
