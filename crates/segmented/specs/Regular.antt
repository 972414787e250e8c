-- The axes that segments stand on keep the law of the trait `Axis`: a whole axis, and a stepped one of whole or of real numbers. Assumes nothing.
use Rattle.std.specs.Prelude.{◌≡◌, ℕ, suc, ◌+◌, ◌<◌, ◌≤◌, Bool, true, false, cond, List, ℤ, pos, ◌+ℤ◌, ◌-ℤ◌, nat_abs, length, Float, Option, Some, None}
use Rattle.std.specs.Int.Signed.{lt_z}
use Rattle.std.specs.Float.Ieee.{of_int}
use Rattle.std.specs.Float.{binary64}
use Rattle.std.proofs.Common.{sym, refl, ap, ◌∙◌, subst, arith, ltb-false, ltb-true, le-ltb, lt-ltb, le-leb, true≢false}
use native.Mathlib.Decide.{dec_lt}
use Rattle.ranged1d.specs.Answer.{given, none}
use Rattle.ranged1d.specs.Admitted.{whole_admitted, limit_admitted}
use Rattle.ranged1d.specs.declared.Limit.{Limit}
use Rattle.ranged1d.proofs.Answers.{given_is, not_none, not-both}
use Rattle.ranged1d.proofs.Whole.{not_lt, from_start, near_on}
use Rattle.real.specs.Place.{number, spot, spot_answer}
use Rattle.real.proofs.Placed.{spot-near}
use Rattle.numeric.specs.Marks.{list_of}
use Rattle.numeric.specs.Calls.{element}
use Rattle.numeric.specs.Whole.{count_of, ends_admitted}
use Rattle.numeric.proofs.Readings.{ends-near}
use Rattle.linspace.specs.List.{Kind, whole, real, stepped, most}
use Rattle.linspace.specs.Calls.{nth}
use Rattle.linspace.specs.WholeSteps.{whole_count, Known}
use Rattle.linspace.proofs.Entries.{nth_list, nth_beyond}
use Rattle.linspace.proofs.Walks.{nth_past}
use Rattle.linspace.proofs.WholeList.{too_long_lem, length_is, list_is, lies}
use Rattle.segmented.specs.Segments.{Axis}
use Rattle.segmented.specs.Axes.{most_values, whole_axis, stepped_axis}
use Rattle.segmented.specs.Steps.{Near, Regular, Stands}

-- ---- places, by the ends as floats
spot-number : (w : Option ℤ) {z : ℤ} → spot_answer w ≡ given z → w ≡ Some z
spot-number (Some y) e = ap Some (given_is e)
spot-number None e = absurd (not-both (sym e))

places-near : {A : Type 0} (axis : Axis A) (first second : Float) (float : A → Float) → ((v : A) (limit : Limit) → axis.spot v limit ≡ spot first second (float v) limit)
    → (v : A) (l : Limit) → limit_admitted l ≡ true → Near (spot_answer (axis.spot v l))
places-near axis first second float is v l h z e =
    subst (λ (w : Option ℤ). nat_abs (number w) ≤ 1_001_000_000) (sym (is v l) ∙ spot-number (axis.spot v l) e) (spot-near first second (float v) l h)

-- ---- a whole axis: a value of it lies between its ends
module _ (a b : ℤ) (ok : ends_admitted a b ≡ true) (k : ℕ) (l : k < count_of a b) where
  rises : lt_z b a ≡ false
  unfolding count_of
  rises = go (lt_z b a) refl l
    where
      go : (t : Bool) → lt_z b a ≡ t → k < cond t 0 (nat_abs (b -ℤ a) + 1) → lt_z b a ≡ false
      go true h f = absurd (omega (arith, f))
      go false h f = h

  pub spans : k ≤ nat_abs (b -ℤ a)
  unfolding count_of
  spans = let f : k < nat_abs (b -ℤ a) + 1 = rw rises at l in omega (arith, f)

  pub value-near : nat_abs (a +ℤ pos k) ≤ 1_000_000_000
  value-near = let near = ends-near a b ok in near_on 1_000_000_000 a k (nat_abs (b -ℤ a)) spans near.0 (rw (from_start a b (not_lt b a rises)) near.1)

entry_out : (a b : ℤ) (k : ℕ) → count_of a b ≤ k → (whole_axis a b).entry k ≡ none
entry_out a b k l = rw (le-ltb k (count_of a b) l) refl

value-admitted : (a b : ℤ) → ends_admitted a b ≡ true → (k : ℕ) {w : ℤ} → (whole_axis a b).entry k ≡ given w → whole_admitted w ≡ true
value-admitted a b ok k {w} e = go (dec_lt k (count_of a b))
  where
    go : Dec (k < count_of a b) → whole_admitted w ≡ true
    go (yes l) =
        let is : a +ℤ pos k ≡ w = given_is (ap (λ (t : Bool). cond t (given (a +ℤ pos k)) none) (sym (lt-ltb k (count_of a b) l)) ∙ e) in
        le-leb (nat_abs w) 1_000_000_000 (omega (arith, ap nat_abs is, value-near a b ok k l))
    go (no l) = absurd (not_none (sym (entry_out a b k (omega (arith, l))) ∙ e))

pub whole-regular : (a b : ℤ) → Regular (whole_axis a b)
whole-regular a b = record {
  few = λ f z. ltb-false most_values (count_of a b) f;
  many = λ t. ltb-true most_values (count_of a b) t;
  past = λ s k l. entry_out a b (suc k) (omega (arith, l, s.count));
  fit = λ s k e. value-admitted a b s.admitted k e;
  near = places-near (whole_axis a b) (of_int binary64 a) (of_int binary64 b) (of_int binary64) (λ v l. refl);
}

-- ---- a stepped axis: a list that is not too long is short enough
module _ {A : Type 0} (kind : Kind A) (a b d : A) where
  pub few_enough : (stepped_axis kind a b d).too_many ≡ false → (stepped_axis kind a b d).too_long ≡ false → (stepped_axis kind a b d).count ≤ most_values
  few_enough f z = omega (arith, ltb-false most (length (stepped kind a b d)) z)

  entry_past : {n : ℕ} → Stands (stepped_axis kind a b d) n → (k : ℕ) → n ≤ k → (stepped_axis kind a b d).entry (suc k) ≡ none
  entry_past s k l = nth_past (stepped kind a b d) (suc k) (omega (arith, l, s.count))

module _ (a b d : ℤ) {n : ℕ} (s : Stands (stepped_axis whole a b d) n) where
  few : whole_count a b d ≤ most
  few = go (dec_lt most (whole_count a b d))
    where
      go : Dec (most < whole_count a b d) → whole_count a b d ≤ most
      go (yes l) = absurd (true≢false (sym (too_long_lem a b d s.onward l) ∙ s.short))
      go (no g) = omega (arith, g)

  known : Known a b d n
  known =
      let c = sym s.count ∙ length_is a b d s.onward few in record { admitted = s.admitted; onward = s.onward; count = c; few = omega (arith, c, few) }

  entry-admitted : (k : ℕ) {w : ℤ} → nth (stepped whole a b d) k ≡ given w → whole_admitted w ≡ true
  entry-admitted k {w} e = go (dec_lt k n)
    where
      by_index : nth (stepped whole a b d) k ≡ nth (list_of (element a d) n) k
      by_index = ap (λ (l : List ℤ). nth l k) (list_is known)

      go : Dec (k < n) → whole_admitted w ≡ true
      go (yes l) =
          let is : element a d k ≡ w = given_is (nth_list (element a d) n k l ∙ sym by_index ∙ e) in
          le-leb (nat_abs w) 1_000_000_000 (omega (arith, ap nat_abs is, (lies known k l).near))
      go (no l) = absurd (not_none (nth_beyond (element a d) n k (omega (arith, l)) ∙ sym by_index ∙ e))

pub step-regular : (a b d : ℤ) → Regular (stepped_axis whole a b d)
step-regular a b d = record {
  few = few_enough whole a b d;
  many = λ t. absurd (true≢false (sym t));
  past = λ s k l. entry_past whole a b d s k l;
  fit = λ s k e. entry-admitted a b d s k e;
  near = places-near (stepped_axis whole a b d) (of_int binary64 a) (of_int binary64 b) (of_int binary64) (λ v l. refl);
}

-- every real is admitted
pub real-regular : (a b d : Float) → Regular (stepped_axis real a b d)
real-regular a b d = record {
  few = few_enough real a b d;
  many = λ t. absurd (true≢false (sym t));
  past = λ s k l. entry_past real a b d s k l;
  fit = λ s k e. refl;
  near = places-near (stepped_axis real a b d) a b (λ x. x) (λ v l. refl);
}
