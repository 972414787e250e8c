-- What a caller may rely on beyond the rule: between the limits the index k is at most n; from p on, with q above p,
-- k · (q − p) ≤ (x − p) · n < (k + 1) · (q − p); with q below p it is the index of the mirrored pixel and limits; and it is that of the two
-- distances without their signs, but 0 where pixel and second limit lie on different sides of the first. Assumes nothing.
use mathlib.Core.Path.{◌≡◌, refl, sym, ap, ◌∙◌, subst}
use mathlib.Core.Bool.{Bool, true, false, cond, true≢false}
use mathlib.Core.Logic.{◌⊎◌, ⊎_elim}
use Prim.Native.Nat.{ℕ, zero, suc, ◌+◌, ◌*◌, ◌/◌, ◌≤◌, ◌<◌}
use native.Mathlib.Nat.{div-mul-le_self, lt-div-mul-add, div-le_of_le-mul, mul-le-mul_right, suc-mul, zero-div, zero-mul}
use native.Mathlib.Omega.{arith}
use borrow.Author.Tests.{le-ltb}
use lib.Dec.{T}
use lib.Ieee.Bits.{is_true}
use lib.IntN.{ℤ, pos, negsuc, neg_ℤ, nat_abs, ◌+ℤ◌, ◌-ℤ◌, ◌*ℤ◌, +ℤ_idl, +ℤ_assoc, +ℤ_invl, neg_ℤ-neg_ℤ}
use lib.Signed.{non_neg, lt_z, quot_z, ◌≤ℤ◌, ◌<ℤ◌, le_z_yes, lt_z_yes, <ℤ_irrefl}
use mir.Facts.{yes_leb, yes_ltb}
use Rattle.ranged1d.specs.Answer.{given}
use Rattle.ranged1d.specs.Numbers.{raised}
use Rattle.ranged1d.proofs.Whole.{turned-far, quotient-size, times_far, neg_times, ordered, lt_not, other_way, no_difference, raised-far}
use Rattle.discrete.specs.Index.{floor_div, is_zero, no_index, index_by, index_for}
use Rattle.discrete.proofs.Floor.{floor-negated, cut-raised}

-- ---- at most n
at_most : (d w : ℤ) (n : ℕ) → nat_abs d ≤ nat_abs w → index_by d w n ≤ n
unfolding index_by
at_most d w n h = go (is_zero w)
  where
    go : (t : Bool) → cond t 0 (raised (floor_div (d *ℤ pos n) w)) ≤ n
    go true = omega arith
    go false =
        rw (sym (cut-raised (d *ℤ pos n) w))
        (omega (arith, raised-far (quot_z (d *ℤ pos n) w), quotient-size (d *ℤ pos n) w, ap (λ (m : ℕ). m / nat_abs w) (times_far d n), div-le_of_le-mul (nat_abs w) {m = nat_abs d * n} {n = n} (mul-le-mul_right n h)))

-- from p past x to q is as far as from p to x and on to q
past : (p x q : ℤ) → (q -ℤ x) +ℤ (x -ℤ p) ≡ q -ℤ p
past p x q = +ℤ_assoc q (neg_ℤ x) (x -ℤ p) ∙ ap (λ (z : ℤ). q +ℤ z) (sym (+ℤ_assoc (neg_ℤ x) x (neg_ℤ p)) ∙ ap (λ (z : ℤ). z +ℤ neg_ℤ p) (+ℤ_invl x) ∙ +ℤ_idl (neg_ℤ p))

both_sizes : (x y : ℤ) → T (non_neg x) → T (non_neg y) → nat_abs (x +ℤ y) ≡ nat_abs x + nat_abs y
both_sizes (pos a) (pos b) h k = refl
both_sizes (pos a) (negsuc b) h k = absurd k
both_sizes (negsuc a) y h k = absurd h

nearer : (p x q : ℤ) → p ≤ℤ x → x ≤ℤ q → (nat_abs (x -ℤ p) ≤ nat_abs (q -ℤ p)) × (nat_abs (q -ℤ x) ≤ nat_abs (q -ℤ p))
nearer p x q h k =
    let sum = both_sizes (q -ℤ x) (x -ℤ p) (ordered x q (is_true _ k.le)) (ordered p x (is_true _ h.le)) in
    (omega (arith, sum, ap nat_abs (past p x q)), omega (arith, sum, ap nat_abs (past p x q)))

-- x lies between p and q, which stand in either order
abbrev pub Between : ℤ → ℤ → ℤ → Type 0
Between p x q = ((p ≤ℤ x) × (x ≤ℤ q)) ⊎ ((q ≤ℤ x) × (x ≤ℤ p))

pub index_at_most : (x p q : ℤ) (n : ℕ) → Between p x q → index_by (x -ℤ p) (q -ℤ p) n ≤ n
index_at_most x p q n b =
    at_most (x -ℤ p) (q -ℤ p) n (⊎_elim (λ h. (nearer p x q h.0 h.1).0) (λ h. omega (arith, turned-far x p, turned-far q p, (nearer q x p h.0 h.1).1)) b)

-- ---- limits the other way round: the index is that of the negated distances
pub index-negated : (d w : ℤ) (n : ℕ) → index_by (neg_ℤ d) (neg_ℤ w) n ≡ index_by d w n
unfolding index_by
index-negated d (pos zero) n = refl
index-negated d (pos (suc b)) n =
    ap raised (floor-negated (neg_ℤ d *ℤ pos n) b ∙ ap (λ (z : ℤ). floor_div z (pos (suc b))) (ap neg_ℤ (neg_times d n) ∙ neg_ℤ-neg_ℤ (d *ℤ pos n)))
index-negated d (negsuc b) n = ap raised (ap (λ (z : ℤ). floor_div z (pos (suc b))) (neg_times d n) ∙ sym (floor-negated (d *ℤ pos n) b))

-- ---- by the sizes of the distances, where they lead the same way
pub index-sizes : (d w : ℤ) (n : ℕ) → lt_z d (pos 0) ≡ lt_z w (pos 0) → index_for d w n ≡ index_for (pos (nat_abs d)) (pos (nat_abs w)) n
unfolding index_for no_index
index-sizes (pos d) (pos w) n e = refl
index-sizes (pos d) (negsuc w) n e = absurd (true≢false (sym e ∙ le-ltb d 0 (omega arith)))
index-sizes (negsuc d) (pos w) n e = absurd (true≢false (e ∙ le-ltb w 0 (omega arith)))
index-sizes (negsuc d) (negsuc w) n e = ap given (sym (index-negated (negsuc d) (negsuc w) n))

divided : (d w n : ℕ) → 0 < w → index_for (pos d) (pos w) n ≡ given (d * n / w)
unfolding index_for no_index index_by floor_div
divided d zero n h = absurd (omega (arith, h))
divided d (suc w) n h = refl

pub index_divided : (d w : ℤ) (n : ℕ) → lt_z d (pos 0) ≡ lt_z w (pos 0) → 0 < nat_abs w → index_for d w n ≡ given (nat_abs d * n / nat_abs w)
index_divided d w n e h = index-sizes d w n e ∙ divided (nat_abs d) (nat_abs w) n h

-- where they do not, and on the first limit itself
below : (k w : ℕ) → raised (floor_div (neg_ℤ (pos k)) (pos w)) ≡ 0
unfolding floor_div
below zero w = zero-div w
below (suc k) w = refl

pub index-before : (m w n : ℕ) → index_for (neg_ℤ (pos m)) (pos w) n ≡ given 0
unfolding index_for no_index index_by floor_div
index-before zero zero n = refl
index-before zero (suc w) n = ap given (ap (λ (k : ℕ). k / suc w) (zero-mul n) ∙ zero-div (suc w))
index-before (suc m) zero n = refl
index-before (suc m) (suc w) n = ap given (below (suc m * n) (suc w))

pub index-behind : (d w : ℤ) (n : ℕ) → (lt_z d (pos 0) ≡ lt_z w (pos 0) → ⊥) → index_for d w n ≡ given 0
unfolding index_for no_index
index-behind (pos d) (pos w) n e = absurd (e (le-ltb d 0 (omega arith) ∙ sym (le-ltb w 0 (omega arith))))
index-behind (pos d) (negsuc w) n e = ap given (sym (index-negated (pos d) (negsuc w) n)) ∙ index-before d (suc w) n
index-behind (negsuc d) (pos w) n e = index-before (suc d) w n
index-behind (negsuc d) (negsuc w) n e = absurd (e refl)

-- ---- the exact quotient
exact : (d w : ℤ) (n : ℕ) → T (non_neg d) → T (non_neg w) → (w ≡ pos 0 → ⊥) → ((pos (index_by d w n) *ℤ w) ≤ℤ (d *ℤ pos n)) × ((d *ℤ pos n) <ℤ (pos (suc (index_by d w n)) *ℤ w))
unfolding floor_div index_by
exact (pos a) (pos zero) n hd hw h = absurd (h refl)
exact (pos a) (pos (suc b)) n hd hw h =
    let above : a * n < suc (a * n / suc b) * suc b = omega (arith, lt-div-mul-add {a = a * n} {b = suc b} (omega arith), suc-mul (a * n / suc b) (suc b)) in
    (le_z_yes (yes_leb (div-mul-le_self (a * n) (suc b))), lt_z_yes (yes_ltb above))
exact (pos a) (negsuc b) n hd hw h = absurd hw
exact (negsuc a) w n hd hw h = absurd hd

pub index-exact : (x p q : ℤ) (n : ℕ) → p <ℤ q → p ≤ℤ x
    → ((pos (index_by (x -ℤ p) (q -ℤ p) n) *ℤ (q -ℤ p)) ≤ℤ ((x -ℤ p) *ℤ pos n)) × (((x -ℤ p) *ℤ pos n) <ℤ (pos (suc (index_by (x -ℤ p) (q -ℤ p) n)) *ℤ (q -ℤ p)))
index-exact x p q n h k =
    exact (x -ℤ p) (q -ℤ p) n (ordered p x (is_true _ k.le)) (ordered p q (other_way q p (lt_not p q (is_true _ h.lt)))) (λ e. <ℤ_irrefl (subst (λ (z : ℤ). p <ℤ z) (sym (no_difference p q e)) h))
