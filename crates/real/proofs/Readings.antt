-- The mirror of a real reading. Assumes nothing.
use mathlib.Core.Path.{◌≡◌, refl, sym, ◌∙◌, subst}
use mathlib.Core.Logic.{inl, inr}
use mathlib.Core.Bool.{Bool, true, false, not, cond, ◌||◌, true≢false, and_comm, or_comm}
use lib.IntN.{ℤ, neg_ℤ, neg_ℤ-+ℤ, ◌-ℤ◌}
use lib.Signed.{lt_z, le_z}
use lib.Ieee.{Float, nan, inf, fin, binary64, neg, add, sub, mul, of_int, is_nan}
use Rattle.ranged1d.specs.Answer.{given, none, refused, both_given, both_none, both_refused}
use Rattle.ranged1d.specs.Admitted.{pixel_admitted, limit_admitted, reading_admitted}
use Rattle.ranged1d.specs.declared.Limit.{Limit}
use Rattle.ranged1d.specs.Numbers.{low, high, same}
use Rattle.ranged1d.proofs.Whole.{within-neg, neg_le, neg_lt, low-neg, high-neg, same_yes, no_difference}
use Rattle.real.specs.Reading.{outside, offset, value_at, real_reading}
use Rattle.real.specs.Mirror.{mirrored, Same, Opposite}
use Rattle.real.proofs.Signs.{Alike, zeros_equal, alike_on, alike_through, turns_alike, add_turns, sub_turns, mul-neg, mul-alike, div-alike, add_left, int_neg, int_alike}
use Rattle.real.proofs.Exact.{eq_self}

-- ---- what is admitted
pub pixel_neg : (x : ℤ) → pixel_admitted (neg_ℤ x) ≡ pixel_admitted x
pixel_neg x = within-neg 1_000_000 x

pub limit-neg : (limit : Limit) → limit_admitted (mirrored limit) ≡ limit_admitted limit
limit-neg limit = rw (pixel_neg limit.0, pixel_neg limit.1)

-- ---- which pixels can be read
pub outside-neg : (x p q : ℤ) → outside (neg_ℤ x) (neg_ℤ p) (neg_ℤ q) ≡ outside x p q
outside-neg x p q =
    rw (low-neg p q, high-neg p q, neg_lt x (high p q), neg_lt (low p q) x) (or_comm (lt_z (high p q) x) (lt_z x (low p q)))

pub same-neg : (p q : ℤ) → same (neg_ℤ p) (neg_ℤ q) ≡ same p q
same-neg p q = rw (neg_le p q, neg_le q p) (and_comm (le_z q p) (le_z p q))

-- ---- the value
pub length-neg : (p q : ℤ) → neg_ℤ q -ℤ neg_ℤ p ≡ neg_ℤ (q -ℤ p)
length-neg p q = sym (neg_ℤ-+ℤ q (neg_ℤ p))

offset-alike : (x p q : ℤ) → same p q ≡ false → Alike (offset (neg_ℤ x) (neg_ℤ p) (neg_ℤ q)) (offset x p q)
offset-alike x p q n =
    rw (length-neg p x, length-neg p q)
    (div-alike (of_int binary64 (x -ℤ p)) (of_int binary64 (q -ℤ p)) (int_alike (x -ℤ p))
    (int_neg binary64 (q -ℤ p) (λ e. true≢false (sym (same_yes p q (no_difference p q e)) ∙ n))))

value-alike : (a b t' t : Float) → Alike t' t → Alike (value_at (neg a) (neg b) t') (neg (value_at a b t))
value-alike a b t' t w =
    let d = sub binary64 b a in
    let m = mul binary64 d t in
    let m' = mul binary64 (sub binary64 (neg b) (neg a)) t' in
    let turned : Alike m' (neg m) = rw (sym (mul-neg d t)) (mul-alike (turns_alike (sub_turns b a)) w) in
    alike_on (alike_through (λ (z : Float). add binary64 z (neg a)) (add_left (neg a)) turned) (turns_alike (add_turns m a))

same_self : (x : Float) → Same x x
unfolding is_nan
same_self nan = inl (refl, refl)
same_self (inf s) = inr (eq_self (inf s) tt)
same_self (fin s m e) = inr (eq_self (fin s m e) tt)

pub alike_same : {x y : Float} → Alike x y → Same x y
alike_same {x} (inl e) = subst (Same x) e (same_self x)
alike_same (inr w) = rw (w.0.1, w.1.1) (inr (zeros_equal w.0.0 w.1.0))

pub readings : (limit : Limit) (a b : Float) (x : ℤ) → Opposite (real_reading (neg a) (neg b) (neg_ℤ x) (mirrored limit)) (real_reading a b x limit)
unfolding real_reading
readings limit a b x =
    let p = limit.0 in
    let q = limit.1 in
    rw (limit-neg limit, pixel_neg x, outside-neg x p q, same-neg p q)
    (go (reading_admitted x limit) (outside x p q) (same p q) refl)
  where
    go : (c o e : Bool) → same limit.0 limit.1 ≡ e
        → Opposite
        (cond (not c) (refused 2) (cond (o || e) none (given (value_at (neg a) (neg b) (offset (neg_ℤ x) (neg_ℤ limit.0) (neg_ℤ limit.1))))))
        (cond (not c) (refused 2) (cond (o || e) none (given (value_at a b (offset x limit.0 limit.1)))))
    go false o e h = both_refused
    go true true e h = both_none
    go true false true h = both_none
    go true false false h = both_given (alike_same (value-alike a b _ _ (offset-alike x limit.0 limit.1 h)))
