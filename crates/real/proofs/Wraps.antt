-- What the code's whole numbers are once they are put into 32 or 64 bits: themselves, as they are small. Assumes nothing.
use Rattle.std.specs.Prelude.{Some}
use Rattle.std.specs.Int.{int_min, int_max}
use Rattle.std.proofs.Common.{◌≡◌, ◌∙◌, ℤ, pos, neg_ℤ, nat_abs, ◌+ℤ◌, ◌-ℤ◌, ◌≤◌, Bool, true, false, not, cond, ap, sym, refl, arith, to_z, of_z, to_z-of_z, w32, w64, SFits}
use lib.IntN.{+ℤ_idl}
use lib.Signed.{quot_z, le_z, lt_z}
use mir.Facts.{sfits_widen}
use Rattle.ranged1d.specs.declared.Limit.{Limit}
use Rattle.ranged1d.specs.Admitted.{limit_admitted}
use Rattle.ranged1d.specs.Numbers.{low, high}
use Rattle.ranged1d.proofs.Bools.{chosen}
use Rattle.ranged1d.proofs.Whole.{fits32, fits64, far32, add-far, neg-far, zero_minus_far, quotient-far, length-near, lt_le}
use Rattle.real.proofs.Cases.{facing, facing_up, facing_down, near-limits}

-- a number of 32 bits in 64
pub wide : (z : ℤ) → SFits w32 z → to_z w64 (of_z w64 z) ≡ z
wide z f = to_z-of_z {w = w64} (sfits_widen {w = w32} {w' = w64} {z = z} tt f)

-- ---- admitted limits, the film's length and its half
module _ (limit : Limit) (h : limit_admitted limit ≡ true) where
  pub p_is : to_z w32 (of_z w32 limit.0) ≡ limit.0
  p_is = to_z-of_z (fits32 limit.0 (omega (arith, (near-limits limit h).0)))

  pub q_is : to_z w32 (of_z w32 limit.1) ≡ limit.1
  q_is = to_z-of_z (fits32 limit.1 (omega (arith, (near-limits limit h).1)))

  pub length_fits : SFits w32 (limit.1 -ℤ limit.0)
  length_fits = fits32 (limit.1 -ℤ limit.0) (omega (arith, length-near limit h))

  half_fits : SFits w32 (quot_z (limit.1 -ℤ limit.0) (pos 2))
  half_fits = fits32 (quot_z (limit.1 -ℤ limit.0) (pos 2)) (omega (arith, quotient-far (limit.1 -ℤ limit.0) (pos 2), length-near limit h))

  pub length_is : to_z w32 (of_z w32 (limit.1 -ℤ limit.0)) ≡ limit.1 -ℤ limit.0
  length_is = to_z-of_z length_fits

  pub half_is : to_z w32 (of_z w32 (quot_z (limit.1 -ℤ limit.0) (pos 2))) ≡ quot_z (limit.1 -ℤ limit.0) (pos 2)
  half_is = to_z-of_z half_fits

  pub half_wide : to_z w64 (of_z w64 (quot_z (limit.1 -ℤ limit.0) (pos 2))) ≡ quot_z (limit.1 -ℤ limit.0) (pos 2)
  half_wide = wide (quot_z (limit.1 -ℤ limit.0) (pos 2)) half_fits

-- ---- the smaller and the larger of two, as the library has them
flipped : {A : Type 0} (b : Bool) (x y : A) → cond (not b) x y ≡ cond b y x
flipped true x y = refl
flipped false x y = refl

pub min_is : (p q : ℤ) → int_min p q ≡ low p q
min_is p q = ap (λ (b : Bool). cond b q p) (lt_le q p) ∙ flipped (le_z p q) q p

pub max_is : (p q : ℤ) → int_max p q ≡ high p q
max_is p q = ap (λ (b : Bool). cond b p q) (lt_le q p) ∙ flipped (le_z p q) p q

module _ (p q : ℤ) (fp : SFits w32 p) (fq : SFits w32 q) where
  pub low_is : to_z w32 (of_z w32 (low p q)) ≡ low p q
  low_is = to_z-of_z (chosen (SFits w32) (le_z p q) fp fq)

  pub high_is : to_z w32 (of_z w32 (high p q)) ≡ high p q
  high_is = to_z-of_z (chosen (SFits w32) (le_z p q) fq fp)

-- ---- the steps of a film of length l, n those of one that runs upward
module _ (n : ℤ) (near : nat_abs n ≤ 1_000_000_000) where
  n64 : SFits w64 n
  n64 = fits64 n (omega (arith, near))

  pub turned_fits : SFits w64 (pos 0 -ℤ to_z w64 (of_z w64 n))
  turned_fits = rw (to_z-of_z n64) (fits64 (pos 0 -ℤ n) (omega (arith, near, zero_minus_far n)))

  pub turned_is : to_z w64 (of_z w64 (pos 0 -ℤ to_z w64 (of_z w64 n))) ≡ neg_ℤ n
  turned_is = to_z-of_z turned_fits ∙ rw (to_z-of_z n64) (+ℤ_idl (neg_ℤ n))

  pub same_is_64 : to_z w64 (of_z w64 n) ≡ n
  same_is_64 = to_z-of_z n64

  module _ (l k : ℤ) where
    abbrev pub Steps : Type 0
    Steps = (facing l (Some n) ≡ Some k) × (nat_abs k ≤ 1_000_000_000)

    pub down_steps : lt_z l (pos 0) ≡ true → k ≡ to_z w64 (of_z w64 (pos 0 -ℤ to_z w64 (of_z w64 n))) → Steps
    down_steps h e =
        let d : k ≡ neg_ℤ n = e ∙ turned_is in
        (facing_down l (Some n) h ∙ ap Some (sym d), omega (arith, ap nat_abs d, neg-far n, near))

    pub up_steps : lt_z l (pos 0) ≡ false → k ≡ to_z w64 (of_z w64 n) → Steps
    up_steps h e =
        let d : k ≡ n = e ∙ same_is_64 in
        (facing_up l (Some n) h ∙ ap Some (sym d), omega (arith, ap nat_abs d, near))

-- p and the steps
module _ (p k : ℤ) (fp : SFits w32 p) (near : nat_abs k ≤ 1_000_000_000) where
  pub sum_fits : SFits w64 (p +ℤ k)
  sum_fits = fits64 (p +ℤ k) (omega (arith, near, far32 p fp, add-far p k))

  pub sum_is : to_z w64 (of_z w64 (p +ℤ k)) ≡ p +ℤ k
  sum_is = to_z-of_z sum_fits
