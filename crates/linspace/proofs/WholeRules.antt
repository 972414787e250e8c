-- The steps of the calls on whole stepped axes, by the tests that lead to each answer. Assumes nothing.
use mathlib.Core.Path.{◌≡◌, refl, sym, ap, subst, ◌∙◌}
use mathlib.Core.Bool.{true, false}
use Prim.Native.Nat.{ℕ, ◌+◌, ◌-◌, ◌/◌, ◌≤◌, ◌<◌}
use native.Mathlib.Numerals.{add-one}
use native.Mathlib.Omega.{arith}
use borrow.Author.Tests.{le-leb, lt-leb}
use lib.IntN.{ℤ, pos, nat_abs, ◌+ℤ◌, ◌-ℤ◌, ◌*ℤ◌, +ℤ_invr}
use mir.Facts.{to_z-of_z, to_z_pos}
use mir.Syntax.{w32}
use mir.Val.{SFits, to_z, of_z}
use Rattle.ranged1d.specs.Answer.{given, refused}
use Rattle.ranged1d.specs.declared.Limit.{Limit}
use Rattle.ranged1d.proofs.Whole.{fits32, add-far, pos_times_far}
use Rattle.real.specs.Place.{whole_place}
use Rattle.linspace.specs.List.{whole, most, against, axis_admitted}
use Rattle.linspace.specs.Calls.{step_size}
use Rattle.numeric.specs.Calls.{element}
use Rattle.linspace.specs.WholeSteps.{whole_count, Lies, Known}
use Rattle.linspace.proofs.Rules.{counts_against, counts_long, counts_all, size_is, ends_place}
use Rattle.linspace.proofs.WholeList.{sloped, too_long_lem, not_long, length_is, admitted-near, lies, element-next}

-- ---- what is admitted keeps its number as an i32
pub record Bits (a b d : ℤ) : Type 0 where
  pub a_is : to_z w32 (of_z w32 a) ≡ a
  pub b_is : to_z w32 (of_z w32 b) ≡ b
  pub d_is : to_z w32 (of_z w32 d) ≡ d

pub bits_of : {a b d : ℤ} → axis_admitted whole a b d ≡ true → Bits a b d
bits_of {a} {b} {d} h =
    let near = admitted-near a b d h in
    record { a_is = to_z-of_z (fits32 a (omega (arith, near.0))); b_is = to_z-of_z (fits32 b (omega (arith, near.1))); d_is = to_z-of_z (fits32 d (omega (arith, near.2))) }

-- the sizes that a count is made of
pub count_sizes : (a b d : ℤ) → axis_admitted whole a b d ≡ true → {p s : ℕ} → p ≡ nat_abs (to_z w32 (of_z w32 b) -ℤ to_z w32 (of_z w32 a)) → s ≡ nat_abs (to_z w32 (of_z w32 d))
    → (p ≡ nat_abs (b -ℤ a)) × (s ≡ nat_abs d)
count_sizes a b d h p s =
    let bits = bits_of {a = a} {b = b} {d = d} h in
    (rw (bits.a_is, bits.b_is) at p, rw bits.d_is at s)

module _ (a b d : ℤ) where
  -- ---- the count
  module _ (p s : ℕ) (span : p ≡ nat_abs (b -ℤ a)) (size : s ≡ nat_abs d) where
    pub count_none : p ≤ s → 0 ≡ whole_count a b d
    unfolding whole_count
    count_none l = rw (← span, ← size, le-leb p s l) refl

    pub count-some : s < p → (p - 1) / s + 1 ≡ whole_count a b d
    unfolding whole_count
    count-some l = rw (← span, ← size, lt-leb p s l) refl

  pub step_some : against whole a b d ≡ false → (p s : ℕ) → p ≡ nat_abs (b -ℤ a) → s ≡ nat_abs d → s < p → 0 < s
  step_some h p s span size l = subst (λ (n : ℕ). 0 < n) (sym size) (sloped a b d h (λ e. omega (arith, l, span, ap (λ (z : ℤ). nat_abs (z -ℤ a)) (sym e), ap nat_abs (+ℤ_invr a)))).moves

  -- ---- the number of entries, or why they are not counted
  module _ (admitted : axis_admitted whole a b d ≡ true) where
    pub count-against : against whole a b d ≡ true → step_size whole a b d ≡ refused 6
    count-against h = sym (counts_against whole a b d h ∙ size_is whole a b d admitted)

    module _ (h : against whole a b d ≡ false) (n : ℕ) (count : n ≡ whole_count a b d) where
      pub count_long : most < n → step_size whole a b d ≡ refused 7
      count_long l = sym (counts_long whole a b d h (too_long_lem a b d h (omega (arith, l, count))) ∙ size_is whole a b d admitted)

      pub count-given : n ≤ most → step_size whole a b d ≡ given n
      count-given l =
          let few : whole_count a b d ≤ most = omega (arith, l, count) in
          sym (ap given (count ∙ sym (length_is a b d h few)) ∙ counts_all whole a b d h (not_long a b d h few) ∙ size_is whole a b d admitted)

  -- ---- the place by the ends alone
  pub ends-place : axis_admitted whole a b d ≡ true → (v : ℤ) (limit : Limit) → whole_place a b v limit ≡ ends_place whole a b d v limit
  unfolding whole_place
  ends-place h v limit =
      let near = admitted-near a b d h in
      rw (le-leb (nat_abs a) 1000000000 near.0, le-leb (nat_abs b) 1000000000 near.1) refl

-- ---- an entry as it is computed
pub record EntryFits (a d : ℤ) (k : ℕ) : Type 0 where
  pub product : SFits w32 (to_z w32 k *ℤ to_z w32 (of_z w32 d))
  pub sum : SFits w32 (to_z w32 (of_z w32 a) +ℤ to_z w32 (of_z w32 (to_z w32 k *ℤ to_z w32 (of_z w32 d))))
  pub is : to_z w32 (of_z w32 (to_z w32 (of_z w32 a) +ℤ to_z w32 (of_z w32 (to_z w32 k *ℤ to_z w32 (of_z w32 d))))) ≡ element a d k

pub entry_fits : {a b d : ℤ} {n : ℕ} → Known a b d n → (k : ℕ) → k < n → EntryFits a d k
entry_fits {a} {b} {d} known k h = record { product = rw (k_is, bits.d_is) product; sum = rw (k_is, bits.d_is, bits.a_is, to_z-of_z product) sum; is = rw (k_is, bits.d_is, bits.a_is, to_z-of_z product) (to_z-of_z sum) }
  where
    on : Lies a b d k
    on = lies known k h

    bits : Bits a b d
    bits = bits_of known.admitted

    k_is : to_z w32 k ≡ pos k
    k_is = to_z_pos w32 (omega (arith, on.index))

    product : SFits w32 (pos k *ℤ d)
    product = fits32 _ (omega (arith, pos_times_far k d, on.far))

    sum : SFits w32 (element a d k)
    sum = fits32 _ (omega (arith, on.near))

-- ---- the entry behind entry k, as it is computed
pub record NextFits (a d x : ℤ) (k : ℕ) : Type 0 where
  pub sum : SFits w32 (x +ℤ to_z w32 (of_z w32 d))
  pub is : to_z w32 (of_z w32 (x +ℤ to_z w32 (of_z w32 d))) ≡ element a d (k + 1)

pub next_fits : {a b d x : ℤ} {n : ℕ} → Known a b d n → (k : ℕ) → k < n → x ≡ element a d k → NextFits a d x k
next_fits {a} {b} {d} {x} known k h e = record { sum = rw bits.d_is sum; is = rw (bits.d_is, to_z-of_z sum, e, add-one k) (element-next a d k) }
  where
    bits : Bits a b d
    bits = bits_of known.admitted

    sum : SFits w32 (x +ℤ d)
    sum = fits32 _ (omega (arith, add-far x d, ap nat_abs e, (lies known k h).near, (admitted-near a b d known.admitted).2))
