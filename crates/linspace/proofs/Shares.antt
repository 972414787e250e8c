-- The share of a list's entries that a pixel is read past: told in 2^40ths, rounded up, it names the same entry as 01's quotient, since a list is short.
-- Assumes nothing.
use mathlib.Core.Path.{◌≡◌, refl, sym, ap, ◌∙◌}
use mathlib.Core.List.{List, [], ◌∷◌}
use Prim.Native.Nat.{ℕ, zero, suc, ◌+◌, ◌-◌, ◌*◌, ◌/◌, ◌%◌, ◌≤◌, ◌<◌}
use native.Mathlib.Nat.{mul-add, add-mul, mul_assoc, mul_comm, mul_right_comm, mul-le-mul, mul-le-mul_right, le_of_mul-le-mul_right, lt_of_mul-lt-mul_right, div-add-mod', mod-lt, div-eq_of_lt-le, le-div_iff_mul-le, div-lt_iff_lt-mul, zero-div, mul-zero, mul-div_cancel, one-mul}
use native.Mathlib.Omega.{arith}
use borrow.Author.Tests.{lt-ltb}
use lib.IntN.{ℤ, pos, nat_abs}
use lib.ListN.{length}
use lib.Signed.{lt_z}
use lib.Ieee.{Float}
use Rattle.ranged1d.specs.Answer.{given, none}
use Rattle.discrete.specs.Index.{floor_div, no_index, index_by, index_for}
use Rattle.discrete.proofs.Within.{at-limits, past-limits}
use Rattle.discrete.proofs.Theorems.{index-sizes, index-before, index-behind}
use Rattle.linspace.specs.Calls.{nth, nth_of}
use Rattle.linspace.specs.RealSteps.{all, Shares}
use Rattle.linspace.proofs.Walks.{nth_past}

module _ (far whole n : ℕ) (W : 0 < whole) (few : whole ≤ 2000000) (short : n ≤ 65537) where
  abbrev up : ℕ
  up = far * all + (whole - 1)

  abbrev r : ℕ
  r = up / whole

  abbrev q : ℕ
  q = far * n / whole

  -- what rounding up adds: less than a part
  abbrev more : ℕ
  more = whole - 1 - up % whole

  rounded : r * whole ≡ far * all + more
  rounded = omega (arith, div-add-mod' up whole, mod-lt up W)

  -- n shares of the whole are q wholes, the rest of far · n, and what rounding adds
  spread : n * r * whole ≡ q * all * whole + far * n % whole * all + n * more
  spread =
      let e = far * n in
      mul_assoc n r whole
      ∙ ap (λ (x : ℕ). n * x) rounded
      ∙ mul-add n (far * all) more
      ∙ ap (λ (x : ℕ). x + n * more)
      (sym (mul_assoc n far all)
      ∙ ap (λ (x : ℕ). x * all) (mul_comm n far ∙ sym (div-add-mod' e whole))
      ∙ add-mul (q * whole) (e % whole) all
      ∙ ap (λ (x : ℕ). x + e % whole * all) (mul_right_comm q whole all))

  little : n * more < all
  little =
      let h : more ≤ 2000000 = omega (arith, few) in
      let k : n * more ≤ 65537 * 2000000 = mul-le-mul short h in
      omega (arith, k)

  pub share-exact : n * r / all ≡ q
  share-exact =
      let rest : (far * n % whole + 1) * all ≤ whole * all = mul-le-mul_right all (omega (arith, mod-lt (far * n) W)) in
      let low : q * all * whole ≤ n * r * whole = omega (arith, spread) in
      let high : n * r * whole < (q + 1) * all * whole =
      omega (arith, spread, rest, little, add-mul (far * n % whole) 1 all, one-mul all, mul_comm whole all, ap (λ (x : ℕ). x * whole) (add-mul q 1 all), add-mul (q * all) (1 * all) whole, ap (λ (x : ℕ). x * whole) (one-mul all)) in
      div-eq_of_lt-le all (le_of_mul-le-mul_right low W) (lt_of_mul-lt-mul_right whole high)

-- ---- the share of a pixel that is read as the first entry, as on the first limit
share-first : (d w : ℤ) → ((n : ℕ) → index_for d w n ≡ given 0) → Shares d w 0
share-first d w first = record { within = omega arith; read = λ l s. ap (nth_of l) (first (length l)) ∙ nought l }
  where
    nought : (l : List Float) → nth l 0 ≡ nth l (length l * 0 / all)
    nought l = ap (nth l) (sym (ap (λ (x : ℕ). x / all) (mul-zero (length l)) ∙ zero-div all))

pub share_on : (whole : ℕ) → Shares (pos 0) (pos whole) 0
share_on whole = share-first (pos 0) (pos whole) (index-before 0 whole)

-- of one past the second limit; of one between both
module _ (far : ℕ) where
  none-at : (l : List Float) → 0 < far → nth_of l (index_for (pos far) (pos 0) (length l)) ≡ none
  none-at [] h = ap (nth_of []) (at-limits (pos far) (pos 0) 0 refl (rw (lt-ltb 0 far h) refl))
  none-at (x ∷ xs) h = ap (nth_of (x ∷ xs)) (past-limits (pos far) (pos 0) (length (x ∷ xs)) refl (lt-ltb 0 far h) (lt-ltb 0 (length (x ∷ xs)) (omega arith)))

  none-past : (l : List Float) (w : ℕ) → suc w ≤ far → nth l (far * length l / suc w) ≡ none
  none-past l w h =
      let n = length l in
      let m : n * suc w ≤ far * n = omega (arith, mul-le-mul_right n h, mul_comm n (suc w)) in
      nth_past l (far * n / suc w) ((le-div_iff_mul-le {k = suc w} (omega arith)).1 m)

  past : (l : List Float) (w : ℕ) → 0 < far → w ≤ far → nth_of l (index_for (pos far) (pos w) (length l)) ≡ none
  unfolding index_for no_index index_by floor_div
  past l zero f h = none-at l f
  past l (suc w) f h = none-past l w h

  pub share-past : (whole : ℕ) → 0 < far → whole ≤ far → Shares (pos far) (pos whole) all
  share-past whole f h = record { within = omega arith; read = λ l s. past l whole f h ∙ sym (nth_past l (length l * all / all) (omega (arith, mul-div_cancel (length l) {n = all} (omega arith)))) }

  pub share-between : (whole : ℕ) → whole ≤ 2000000 → far < whole → Shares (pos far) (pos whole) ((far * all + (whole - 1)) / whole)
  unfolding index_for no_index index_by floor_div
  share-between zero few h = absurd (omega (arith, h))
  share-between (suc w) few h = record {
    within =
        let whole = suc w in
        let m : (far + 1) * all ≤ whole * all = mul-le-mul_right all (omega (arith, h)) in
        let most : far * all + (whole - 1) < (all + 1) * whole = omega (arith, m, add-mul far 1 all, one-mul all, mul_comm whole all, add-mul all 1 whole, one-mul whole) in
        let less : (far * all + (whole - 1)) / whole < all + 1 = (div-lt_iff_lt-mul {k = suc w} (omega arith)).1 most in
        omega (arith, less);
    read = λ l short. ap (nth l) (sym (share-exact far (suc w) (length l) (omega arith) few short));
  }

-- ---- the share of distances: on the same side of the first limit, that of their sizes; else as on it
pub share-sizes : {r : ℕ} (d w : ℤ) → lt_z d (pos 0) ≡ lt_z w (pos 0) → Shares (pos (nat_abs d)) (pos (nat_abs w)) r → Shares d w r
share-sizes d w e s = record { within = s.within; read = λ l h. ap (nth_of l) (index-sizes d w (length l) e) ∙ s.read l h }

pub share-behind : (d w : ℤ) → (lt_z d (pos 0) ≡ lt_z w (pos 0) → ⊥) → Shares d w 0
share-behind d w e = share-first d w (λ n. index-behind d w n e)
