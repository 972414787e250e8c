-- `real::place_along` what the search leaves.
use Rattle.std.specs.Prelude.{Option, Some}
use Rattle.std.proofs.Common.{◌≡◌, ◌∙◌, ◌≤◌, ℕ, ℤ, pos, nat_abs, sym, ap, subst, arith, lit≤, to_z, of_z, to_z-of_z, w32, w64, SFits}
use lib.Ieee.{Float, binary64, add, mul, of_int}
use Rattle.ranged1d.proofs.Whole.{far32}
use Rattle.rounding.specs.Integral.{floors}
use Rattle.rounding.specs.Within.{floor_within}
use Rattle.real.specs.Place.{rising, number, milli, farthest}
use Rattle.real.proofs.Cases.{along-none, steps_near}
use Rattle.real.proofs.Mirror.{along-number, along_beyond}
use Rattle.real.proofs.Wraps.{wide, Steps, turned_fits, down_steps, up_steps, sum_fits, sum_is}
use Rattle.real.proofs.place_along.Goals as goal
use Rattle.real.proofs.place_along.Goals.{then-l-lt0, else-l-lt0}

pub returns-then-l-eq0 : goal.returns-then-l-eq0
returns-then-l-eq0 c =
    rw (c.from.ensures, to_z-of_z c.ranges.q, wide _ c.ranges.q)
    (sym (along-none c.args.p c.args.q c.args.l c.args.t (sym (to_z-of_z c.ranges.l) ∙ ap (to_z w32) c.if-l-eq0.true)))

-- ---- any other l: the steps w of the film that runs upward
rises : (l : ℤ) (t : Float) (k : ℕ) (x : Float) (w : Option ℤ) → SFits w32 l → k ≡ nat_abs (to_z w32 (of_z w32 l)) → x ≡ of_int binary64 (pos k)
    → w ≡ floor_within farthest (add binary64 (mul binary64 x t) milli) → w ≡ rising (pos (nat_abs l)) t
unfolding rising
rises l t k x w f ek ex ew =
    ew ∙ ap (λ (y : Float). floor_within farthest (add binary64 (mul binary64 y t) milli)) (ex ∙ ap (λ (j : ℕ). of_int binary64 (pos j)) (ek ∙ ap nat_abs (to_z-of_z f)))

near : (x : Float) (n : ℤ) → Some n ≡ floor_within farthest x → nat_abs n ≤ farthest
near x n e = subst (λ (w : Option ℤ). nat_abs (number w) ≤ farthest) (sym e) (steps_near floors farthest x (lit≤ tt))

pub returns-in_default : goal.returns-in_default
returns-in_default c =
    let a = c.args in
    let r = c.ranges in
    let w = rises a.l a.t _ _ _ r.l c.unsigned_abs.ensures.value c.size_as_f64.ensures c.floor_within.ensures in
    rw (c.end_at.ensures, to_z-of_z r.p, to_z-of_z r.q) (sym (along_beyond a.p a.q a.l a.t (λ e. c.if-l-eq0.false (ap (of_z w32) e)) (sym w ∙ c.in_default.is)))

pub overflow_sub-step : goal.overflow_sub-step
overflow_sub-step c = turned_fits c.in-Some.n (near _ c.in-Some.n c.in-Some.ensures)

-- the steps of this film, by the test that the code makes
module _ (c : goal.After-from-2) where
  abbrev k : ℤ
  k = to_z w64 c.if-l-lt0.step-bits

  h : nat_abs c.in-Some.n ≤ farthest
  h = near _ c.in-Some.n c.in-Some.ensures

  steps : Steps c.in-Some.n h c.args.l k
  steps =
      elim c.if-l-lt0.branch [
        | then-l-lt0 w ↦ down_steps c.in-Some.n h c.args.l k (rw (to_z-of_z c.ranges.l) at w.if-l-lt0.true) w.step-is
        | else-l-lt0 w ↦ up_steps c.in-Some.n h c.args.l k (rw (to_z-of_z c.ranges.l) at w.if-l-lt0.false) w.step-is
      ]

pub overflow_add-result : goal.overflow_add-result
overflow_add-result c = rw (c.from-2.ensures, to_z-of_z c.ranges.p, wide _ c.ranges.p) (sum_fits c.args.p (k c) c.ranges.p (steps c).1)

pub returns : goal.returns
returns c =
    let a = c.args in
    let r = c.ranges in
    let w = rises a.l a.t _ _ _ r.l c.unsigned_abs.ensures.value c.size_as_f64.ensures c.floor_within.ensures in
    rw (c.from-2.ensures, to_z-of_z r.p, wide _ r.p, sum_is a.p (k c) r.p (steps c).1)
    (sym (along-number a.p a.q a.l a.t (λ e. c.if-l-eq0.false (ap (of_z w32) e)) c.in-Some.n (k c) (omega (arith, far32 a.l r.l)) (sym w ∙ c.in-Some.is) (steps c).0))
