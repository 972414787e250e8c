-- The mirror theorem for places, and, with the readings of `Readings`, the whole of it. Assumes nothing.
use Rattle.std.specs.Prelude.{Option, Some, None}
use mathlib.Core.Path.{◌≡◌, refl, sym, ap, ◌∙◌}
use mathlib.Core.Logic.{inl, inr}
use mathlib.Core.Bool.{Bool, true, false, not, cond, ◌&&◌, true≢false}
use Prim.Native.Nat.{ℕ, zero, suc, ◌≤◌, ◌^◌}
use native.Mathlib.Omega.{arith}
use lib.IntN.{ℤ, pos, negsuc, neg_ℤ, neg_ℤ-+ℤ, nat_abs, ◌+ℤ◌, ◌-ℤ◌}
use lib.Signed.{quot_z}
use lib.Ieee.{Float, inf, binary64, neg, add, sub, mul, eq, of_int, of_bits}
use borrow.Author.Tests.{leb-true}
use Rattle.ranged1d.specs.Answer.{refused}
use Rattle.ranged1d.specs.Admitted.{whole_admitted, limit_admitted}
use Rattle.ranged1d.specs.declared.Limit.{Limit}
use Rattle.ranged1d.proofs.Whole.{neg-far, admitted-neg, some_size, no_difference, quot_neg}
use Rattle.rounding.specs.Integral.{Way, floors, ceils}
use Rattle.rounding.specs.Within.{whole_of, within, floor_within, ceil_within}
use Rattle.rounding.proofs.Signs as whole
use Rattle.real.specs.Place.{farthest, milli, share, rising, falling, plus, or_end, along, spot, is_beyond, real_place, whole_place, whole_spot, spot_answer}
use Rattle.real.specs.Mirror.{mirrored, negated, Mirrored}
use Rattle.real.proofs.Cases.{facing, facing_beyond, no_end, steps}
use Rattle.real.proofs.Signs.{zero_of, Alike, alike_on, alike_through, same_through, Turns, turns_alike, eq_neg, add_left, add_turns, sub_turns, mul-neg, mul_right, div-alike, eq_alike, int_neg, int_alike}
use Rattle.real.proofs.Exact.{differ, whole-share}
use Rattle.real.proofs.Readings.{limit-neg, length-neg, readings}

-- ---- the whole number that is added to p
-- a thousandth less than −m, and a thousandth more than m; where that is 0, both are +0
zero_turn : ceil_within farthest (zero_of false) ≡ whole.negated (floor_within farthest (zero_of false))
unfolding within whole_of
zero_turn = refl

sum_turn : (m : Float) → ceil_within farthest (sub binary64 (neg m) milli) ≡ whole.negated (floor_within farthest (add binary64 m milli))
unfolding sub
sum_turn m = go (add_turns m milli)
  where
    go : Turns (add binary64 (neg m) (neg milli)) (add binary64 m milli) (eq (neg milli) m ≡ true)
        → ceil_within farthest (add binary64 (neg m) (neg milli)) ≡ whole.negated (floor_within farthest (add binary64 m milli))
    go (inl e) = ap (ceil_within farthest) e ∙ whole.within-neg ceils farthest (add binary64 m milli)
    go (inr w) = ap (ceil_within farthest) w.2 ∙ zero_turn ∙ sym (ap (λ (y : Float). whole.negated (floor_within farthest y)) w.1)

falls : (n : ℕ) (t : Float) → falling (negsuc n) t ≡ whole.negated (rising (pos (suc n)) t)
unfolding rising falling
falls n t =
    let l = of_int binary64 (pos (suc n)) in
    rw (int_neg binary64 (pos (suc n)) (λ e. omega (arith, ap nat_abs e)), mul-neg l t) (sum_turn (mul binary64 l t))

rises : (n : ℕ) (t : Float) → rising (pos (suc n)) t ≡ whole.negated (falling (negsuc n) t)
rises n t = sym (ap whole.negated (falls n t) ∙ whole.negated_twice (rising (pos (suc n)) t))

-- ---- the place at a share
-- by the steps of the film that runs upward
along_facing : (p q l : ℤ) (t : Float) → (l ≡ pos 0 → ⊥) → along p q l t ≡ or_end p q t (plus p (facing l (rising (pos (nat_abs l)) t)))
unfolding along
along_facing p q (pos zero) t n = absurd (n refl)
along_facing p q (pos (suc l)) t n = refl
along_facing p q (negsuc l) t n = ap (λ (w : Option ℤ). or_end p q t (plus p w)) (falls l t)

module _ (p q l : ℤ) (t : Float) (some : l ≡ pos 0 → ⊥) where
  pub along-number : (n k : ℤ) → nat_abs l ≤ 2 ^ 53 → rising (pos (nat_abs l)) t ≡ Some n → facing l (Some n) ≡ Some k → along p q l t ≡ Some (p +ℤ k)
  unfolding rising of_bits
  along-number n k held e f =
      let finite = no_end floors farthest _ _ _ (pos (nat_abs l)) held (some_size l some) t (ap is_beyond e) in
      along_facing p q l t some ∙ rw (finite false, finite true) (ap (plus p) (ap (facing l) e ∙ f))

  pub along_beyond : rising (pos (nat_abs l)) t ≡ None → along p q l t ≡ or_end p q t None
  along_beyond e = along_facing p q l t some ∙ ap (λ (w : Option ℤ). or_end p q t (plus p w)) (ap (facing l) e ∙ facing_beyond l)

plus-neg : (p : ℤ) (w : Option ℤ) → plus (neg_ℤ p) (whole.negated w) ≡ whole.negated (plus p w)
plus-neg p (Some n) = ap Some (sym (neg_ℤ-+ℤ p n))
plus-neg p None = refl

end-neg : (p q : ℤ) (t : Float) (w' w : Option ℤ) → w' ≡ whole.negated w → or_end (neg_ℤ p) (neg_ℤ q) t (plus (neg_ℤ p) w') ≡ whole.negated (or_end p q t (plus p w))
end-neg p q t w' w e = rw (e, plus-neg p w) (go (eq t (inf false)) (eq t (inf true)))
  where
    go : (b c : Bool) → cond b (Some (neg_ℤ q)) (cond c (Some (neg_ℤ p)) (whole.negated (plus p w))) ≡ whole.negated (cond b (Some q) (cond c (Some p) (plus p w)))
    go true c = refl
    go false true = refl
    go false false = refl

along-neg : (p q l : ℤ) (t : Float) → along (neg_ℤ p) (neg_ℤ q) (neg_ℤ l) t ≡ whole.negated (along p q l t)
unfolding along
along-neg p q (pos zero) t = refl
along-neg p q (pos (suc n)) t = end-neg p q t (falling (negsuc n) t) (rising (pos (suc n)) t) (falls n t)
along-neg p q (negsuc n) t = end-neg p q t (rising (pos (suc n)) t) (falling (negsuc n) t) (rises n t)

-- ---- a share that is a zero of either sign
tiny-up : (s : Bool) → floor_within farthest (add binary64 (zero_of s) milli) ≡ Some (pos 0)
unfolding within whole_of add of_bits
tiny-up true = refl
tiny-up false = refl

tiny-down : (s : Bool) → ceil_within farthest (sub binary64 (zero_of s) milli) ≡ Some (pos 0)
unfolding within whole_of sub of_bits
tiny-down true = refl
tiny-down false = refl

steps_zero : (w : Way) (d : Float) → ((s : Bool) → within w farthest (add binary64 (zero_of s) d) ≡ Some (pos 0)) → (l : ℤ) (s t : Bool) → steps w farthest d l (zero_of s) ≡ steps w farthest d l (zero_of t)
steps_zero w d tiny l s t =
    same_through (λ (y : Float). within w farthest (add binary64 y d)) (λ u v. tiny u ∙ sym (tiny v)) (mul_right (of_int binary64 l) s t)

along_zero : (p q l : ℤ) (s t : Bool) → along p q l (zero_of s) ≡ along p q l (zero_of t)
unfolding along rising falling eq sub
along_zero p q (pos zero) s t = refl
along_zero p q (pos (suc n)) s t = ap (plus p) (steps_zero floors milli tiny-up (pos (suc n)) s t)
along_zero p q (negsuc n) s t = ap (plus p) (steps_zero ceils (neg milli) tiny-down (negsuc n) s t)

-- ---- the place, for ends and a value that stand for the negated ones
spot-neg : (limit : Limit) (a b v a' b' v' : Float) → eq a' b' ≡ eq a b → (eq a b ≡ false → Alike (share a' b' v') (share a b v))
    → spot a' b' v' (mirrored limit) ≡ whole.negated (spot a b v limit)
unfolding spot
spot-neg limit a b v a' b' v' ends alike = rw (ends, length-neg limit.0 limit.1) (go limit.0 limit.1 (limit.1 -ℤ limit.0) (eq a b) refl)
  where
    go : (p q l : ℤ) (e : Bool) → eq a b ≡ e
        → cond e (Some (quot_z (neg_ℤ l) (pos 2))) (along (neg_ℤ p) (neg_ℤ q) (neg_ℤ l) (share a' b' v'))
        ≡ whole.negated (cond e (Some (quot_z l (pos 2))) (along p q l (share a b v)))
    go p q l true h = ap Some (quot_neg l 2)
    go p q l false h = same_through (along (neg_ℤ p) (neg_ℤ q) (neg_ℤ l)) (along_zero (neg_ℤ p) (neg_ℤ q) (neg_ℤ l)) (alike h) ∙ along-neg p q l (share a b v)

answered_neg : (w : Option ℤ) → spot_answer (whole.negated w) ≡ negated (spot_answer w)
answered_neg (Some z) = refl
answered_neg None = refl

-- behind the refusal 2
behind : (c : Bool) (w' w : Option ℤ) → w' ≡ whole.negated w → cond c (refused 2) (spot_answer w') ≡ negated (cond c (refused 2) (spot_answer w))
behind true w' w e = refl
behind false w' w e = ap spot_answer e ∙ answered_neg w

-- ---- real places, also of a value that is the negated one only up to the sign of a zero
less-alike : {x y : Float} (z : Float) → Alike x y → Alike (sub binary64 x z) (sub binary64 y z)
unfolding sub
less-alike z r = alike_through (λ (x : Float). add binary64 x (neg z)) (add_left (neg z)) r

share-alike : (a b v w : Float) → Alike w (neg v) → eq a b ≡ false → Alike (share (neg a) (neg b) w) (share a b v)
share-alike a b v w r n = go (sub_turns b a)
  where
    go : Turns (sub binary64 (neg b) (neg a)) (sub binary64 b a) (eq a b ≡ true) → Alike (share (neg a) (neg b) w) (share a b v)
    go (inl e) = div-alike (sub binary64 v a) (sub binary64 b a) (alike_on (less-alike (neg a) r) (turns_alike (sub_turns v a))) e
    go (inr t) = absurd (true≢false (sym t.0 ∙ n))

pub real-spot : (limit : Limit) (a b v w : Float) → Alike w (neg v) → spot (neg a) (neg b) w (mirrored limit) ≡ whole.negated (spot a b v limit)
real-spot limit a b v w r = spot-neg limit a b v (neg a) (neg b) w (eq_neg a b) (share-alike a b v w r)

real_places : (limit : Limit) (a b v : Float) → real_place (neg a) (neg b) (neg v) (mirrored limit) ≡ negated (real_place a b v limit)
unfolding real_place
real_places limit a b v =
    rw (limit-neg limit) (behind (not (limit_admitted limit)) (spot (neg a) (neg b) (neg v) (mirrored limit)) (spot a b v limit) (real-spot limit a b v (neg v) (inl refl)))

-- ---- whole places
ends-neg : (a b : ℤ) → eq (of_int binary64 (neg_ℤ a)) (of_int binary64 (neg_ℤ b)) ≡ eq (of_int binary64 a) (of_int binary64 b)
ends-neg a b = eq_alike (int_alike a) (int_alike b) ∙ eq_neg (of_int binary64 a) (of_int binary64 b)

abbrev Near : ℤ → Type 0
Near z = nat_abs z ≤ 2 ^ 53

near-neg : (z : ℤ) → Near z → Near (neg_ℤ z)
near-neg z h = rw (neg-far z) h

whole-alike : (a b v : ℤ) → Near a → Near b → Near v → eq (of_int binary64 a) (of_int binary64 b) ≡ false
    → Alike (share (of_int binary64 (neg_ℤ a)) (of_int binary64 (neg_ℤ b)) (of_int binary64 (neg_ℤ v))) (share (of_int binary64 a) (of_int binary64 b) (of_int binary64 v))
whole-alike a b v ha hb hv n =
    rw (whole-share a b v ha hb hv, whole-share (neg_ℤ a) (neg_ℤ b) (neg_ℤ v) (near-neg a ha) (near-neg b hb) (near-neg v hv), length-neg a v, length-neg a b)
    (div-alike (of_int binary64 (v -ℤ a)) (of_int binary64 (b -ℤ a)) (int_alike (v -ℤ a)) (int_neg binary64 (b -ℤ a) (λ e. differ a b ha n (no_difference a b e))))

admitted-near : (z : ℤ) → whole_admitted z ≡ true → Near z
admitted-near z h = omega (arith, leb-true (nat_abs z) 1_000_000_000 h)

pub whole-spot : (limit : Limit) (a b v : ℤ) → whole_admitted a ≡ true → whole_admitted b ≡ true → whole_admitted v ≡ true
    → whole_spot (neg_ℤ a) (neg_ℤ b) (neg_ℤ v) (mirrored limit) ≡ whole.negated (whole_spot a b v limit)
whole-spot limit a b v h i j =
    spot-neg limit (of_int binary64 a) (of_int binary64 b) (of_int binary64 v) (of_int binary64 (neg_ℤ a)) (of_int binary64 (neg_ℤ b)) (of_int binary64 (neg_ℤ v)) (ends-neg a b) (whole-alike a b v (admitted-near a h) (admitted-near b i) (admitted-near v j))

whole_places : (limit : Limit) (a b v : ℤ) → whole_place (neg_ℤ a) (neg_ℤ b) (neg_ℤ v) (mirrored limit) ≡ negated (whole_place a b v limit)
unfolding whole_place
whole_places limit a b v =
    rw (admitted-neg a, admitted-neg b, admitted-neg v, limit-neg limit) (go (whole_admitted a) (whole_admitted b) (whole_admitted v) refl refl refl)
  where
    go : (x y z : Bool) → whole_admitted a ≡ x → whole_admitted b ≡ y → whole_admitted v ≡ z
        → cond (not (x && y && z)) (refused 1) (cond (not (limit_admitted limit)) (refused 2) (spot_answer (whole_spot (neg_ℤ a) (neg_ℤ b) (neg_ℤ v) (mirrored limit))))
        ≡ negated (cond (not (x && y && z)) (refused 1) (cond (not (limit_admitted limit)) (refused 2) (spot_answer (whole_spot a b v limit))))
    go true true true h i j =
        behind (not (limit_admitted limit)) (whole_spot (neg_ℤ a) (neg_ℤ b) (neg_ℤ v) (mirrored limit)) (whole_spot a b v limit) (whole-spot limit a b v h i j)
    go true true false h i j = refl
    go true false z h i j = refl
    go false y z h i j = refl

-- ---- the theorem
pub mirror : (limit : Limit) → Mirrored limit
mirror limit = record { real_places = real_places limit; whole_places = whole_places limit; readings = readings limit }
