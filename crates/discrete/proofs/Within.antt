-- The index at each return of the code, by the tests that led there. Assumes nothing.
use mathlib.Core.Path.{◌≡◌, refl, sym, ap, ◌∙◌}
use mathlib.Core.Bool.{true, false, ◌&&◌}
use Prim.Native.Nat.{ℕ, zero, suc, ◌≤◌}
use native.Mathlib.Omega.{arith}
use lib.Dec.{ltb}
use lib.Pow.{pow_pos}
use lib.IntN.{ℤ, pos, negsuc, nat_abs, ◌-ℤ◌}
use lib.Signed.{lt_z}
use borrow.Author.Tests.{leb-true}
use mir.Facts.{to_z-of_z, to_z_pos}
use mir.Syntax.{Width}
use mir.Val.{SFits, hbits, to_z, of_z}
use Rattle.ranged1d.specs.Answer.{given, none}
use Rattle.ranged1d.specs.Admitted.{pixel_admitted, limit_admitted, reading_admitted}
use Rattle.ranged1d.specs.declared.Limit.{Limit}
use Rattle.ranged1d.proofs.Bools.{both_true}
use Rattle.ranged1d.proofs.Whole.{minus-far, both_near, length-near}
use Rattle.discrete.specs.Index.{is_zero, no_index, index_by, index_for}

-- ---- a test for zero, as the code makes it
pub zero_is : (z : ℤ) → z ≡ pos 0 → is_zero z ≡ true
zero_is z e = rw e

pub not_zero : (z : ℤ) → (z ≡ pos 0 → ⊥) → is_zero z ≡ false
not_zero (pos zero) h = absurd (h refl)
not_zero (pos (suc n)) h = refl
not_zero (negsuc n) h = refl

pub zero_bits : (w : Width) (z : ℤ) → SFits w z → of_z w z ≡ 0 → z ≡ pos 0
zero_bits w z f e = sym (to_z-of_z f) ∙ ap (to_z w) e ∙ to_z_pos w (pow_pos (hbits w))

-- ---- the returns
module _ (d w : ℤ) (n : ℕ) where
  pub past-limits : is_zero w ≡ true → lt_z (pos 0) d ≡ true → ltb 0 n ≡ true → index_for d w n ≡ none
  unfolding no_index index_for
  past-limits e h l = rw (e, h, l)

  pub at-limits : is_zero w ≡ true → (lt_z (pos 0) d && ltb 0 n) ≡ false → index_for d w n ≡ given 0
  unfolding no_index index_by index_for
  at-limits e h = rw (e, h)

-- ---- how far a pixel and the second limit lie from the first
pub distances : (x : ℤ) (l : Limit) → reading_admitted x l ≡ true → (nat_abs (x -ℤ l.0) ≤ 2000000) × (nat_abs (l.1 -ℤ l.0) ≤ 2000000)
distances x l h =
    let each = both_true (pixel_admitted x) (limit_admitted l) h in
    let near = both_near 1000000 l.0 l.1 each.1 in
    let x-near : nat_abs x ≤ 1000000 = leb-true _ _ each.0 in
    (omega (arith, minus-far x l.0, x-near, near.0), length-near l each.1)
