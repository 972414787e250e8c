-- Places and readings that the rules give, computed. Assumes nothing.
use mathlib.Core.Path.{◌≡◌, refl, sym, ap, ◌∙◌}
use mathlib.Core.Bool.{true, false, true≢false}
use mathlib.Core.List.{[], ◌∷◌, map}
use Prim.Native.Nat.{ℕ, ◌+◌, ◌*◌, ◌≤◌}
use native.Mathlib.Omega.{arith}
use lib.IntN.{ℤ, pos, negsuc, nat_abs, ◌+ℤ◌}
use lib.Ieee.{Float, nan, inf, fin, binary64, eq, sub, div, mul, add, of_int, of_bits}
use Rattle.ranged1d.specs.Answer.{Answer, given, none, refused}
use Rattle.ranged1d.specs.declared.Limit.{Limit}
use Rattle.ranged1d.specs.Admitted.{limit_of}
use borrow.Author.Tests.{le-leb}
use Rattle.ranged1d.proofs.Answers.{given_is, not_none}
use Rattle.rounding.specs.Within.{whole_of, within}
use Rattle.real.specs.Place.{rising, falling, along, spot, real_place, whole_place}
use Rattle.real.specs.Reading.{outside, real_reading}
use Rattle.real.specs.Exact.{pixels, distance, away, whole_exact}
use Rattle.real.specs.Stray.{IsWhole, Away}

-- needle 7 on the axis 7..7, film 100..300
equal-ends : whole_place (pos 7) (pos 7) (pos 7) (limit_of (pos 100) (pos 300)) ≡ given (pos 100)
unfolding whole_place spot eq of_int
equal-ends = refl

-- −15, −10, −5 and 0 on −15..−3, film 0..120
below_zero : map (λ v. whole_place (negsuc 14) (negsuc 2) v (limit_of (pos 0) (pos 120))) (negsuc 14 ∷ negsuc 9 ∷ negsuc 4 ∷ pos 0 ∷ [])
    ≡ given (pos 0) ∷ given (pos 50) ∷ given (pos 100) ∷ given (pos 150) ∷ []
unfolding whole_place spot along rising falling within whole_of eq sub div mul add of_int of_bits
below_zero = refl

-- 3, 15 and 4 on 3..15, film 120..0
above_zero : map (λ v. whole_place (pos 3) (pos 15) v (limit_of (pos 120) (pos 0))) (pos 3 ∷ pos 15 ∷ pos 4 ∷ []) ≡ given (pos 120) ∷ given (pos 0) ∷ given (pos 110) ∷ []
unfolding whole_place spot along rising falling within whole_of eq sub div mul add of_int of_bits
above_zero = refl

-- the lowest refusal: 1 before 2, 2 before 5
refusals :
    whole_place (pos 0) (pos 1) (pos 1_000_000_001) (limit_of (pos 0) (pos 1_000_001))
    ∷ whole_place (pos 0) (pos 1) (pos 1_000_000_000) (limit_of (pos 0) (pos 1_000_001))
    ∷ whole_place (pos 0) (pos 1) (pos 1_000_000_000) (limit_of (pos 0) (pos 2))
    ∷ []
    ≡ refused 1 ∷ refused 2 ∷ refused 5 ∷ []
unfolding whole_place spot along rising falling within whole_of eq sub div mul add of_int of_bits
refusals = refl

-- on 0.0..1.0: the infinities, a NaN and 0.3, film −3..9; the farthest place and the next value past it, film 0..2
one : Float
one = fin false 1 (pos 0)

from_zero : (v : Float) → Limit → Answer ℤ
from_zero v limit = real_place (fin false 0 (pos 0)) one v limit

odd_values : map (λ v. from_zero v (limit_of (negsuc 2) (pos 9))) (inf false ∷ inf true ∷ nan ∷ of_bits binary64 0x3FD3_3333_3333_3333 ∷ [])
    ≡ given (pos 9) ∷ given (negsuc 2) ∷ given (negsuc 2) ∷ given (pos 0) ∷ []
unfolding from_zero one real_place spot along rising falling within whole_of eq sub div mul add of_int of_bits
odd_values = refl

farthest-place : map (λ v. from_zero v (limit_of (pos 0) (pos 2))) (of_int binary64 (pos 500_000_000) ∷ fin false 1_000_000_001 (negsuc 0) ∷ [])
    ≡ given (pos 1_000_000_000) ∷ refused 5 ∷ []
unfolding from_zero one real_place spot along rising falling within whole_of eq sub div mul add of_int of_bits
farthest-place = refl

-- ends −0.0 and 0.0 are equal
zero_ends : real_place (fin true 0 (pos 0)) (fin false 0 (pos 0)) one (limit_of (pos 10) (pos 3)) ≡ given (negsuc 2)
unfolding one real_place spot eq
zero_ends = refl

-- pixel 1 of 0..49 on an axis 0..49: the number just under 1; pixels off the film; and a film without length
just_under : real_reading (fin false 0 (pos 0)) (fin false 49 (pos 0)) (pos 1) (limit_of (pos 0) (pos 49)) ≡ given (fin false 9_007_199_254_740_991 (negsuc 52))
unfolding real_reading sub div mul add of_int
just_under = refl

outside_both : map (λ x. real_reading (fin false 0 (pos 0)) one x (limit_of (pos 10) (pos 0))) (pos 11 ∷ negsuc 0 ∷ []) ≡ none ∷ none ∷ []
unfolding real_reading
outside_both = refl

no_length : map (λ x. real_reading (fin false 0 (pos 0)) one x (limit_of (pos 3) (pos 3))) (pos 3 ∷ pos 1_000_001 ∷ []) ≡ none ∷ refused 2 ∷ []
unfolding real_reading
no_length = refl

-- exact places: up, down, at an end of a film without length, and refused: off the axis, with equal ends, and with 2 before 18
exact_places : (whole_exact (pos 0) (pos 9) (pos 4) (limit_of (pos 0) (pos 100)) ≡ given (44, 4)) × (whole_exact (pos 9) (pos 0) (pos 4) (limit_of (pos 100) (pos 0)) ≡ given (55, 5))
    × (whole_exact (pos 0) (pos 9) (pos 9) (limit_of (pos 5) (pos 5)) ≡ given (0, 0)) × (whole_exact (pos 0) (pos 9) (pos 10) (limit_of (pos 0) (pos 100)) ≡ refused 18)
    × (whole_exact (pos 9) (pos 9) (pos 9) (limit_of (pos 0) (pos 100)) ≡ refused 18) × (whole_exact (pos 9) (pos 9) (pos 9) (limit_of (pos 0) (pos 1000001)) ≡ refused 2)
unfolding whole_exact
exact_places = (refl, refl, refl, refl, refl, refl)

-- ---- wrong, 02 (e): one more only from so many thousandths of the axis on, 999 where 998 is right; and never one more
abbrev MoreFrom : ℕ → Type 0
MoreFrom c = (a b v : ℤ) (limit : Limit) (n r : ℕ) → whole_exact a b v limit ≡ given (n, r) → whole_place a b v limit ≡ given (away limit (n + 1)) → c * distance a b ≤ 1000 * r

abbrev NeverMore : Type 0
NeverMore = (a b v : ℤ) (limit : Limit) (n r : ℕ) → whole_exact a b v limit ≡ given (n, r) → whole_place a b v limit ≡ given (away limit n)

-- the place is one more than the quotient, and 999 * 1863688619 - 1000 * 1861824930 is 381
abbrev there : (ℤ × ℤ × ℤ) × Limit
there = ((negsuc 931844308, pos 931844310, pos 59700026), limit_of (negsuc 977561) (pos 977562))

one_more : (whole_exact there.0.0 there.0.1 there.0.2 there.1 ≡ given (1040190, 1861824930)) × (whole_place there.0.0 there.0.1 there.0.2 there.1 ≡ given (away there.1 1040191))
unfolding whole_exact whole_place spot along rising falling within whole_of eq sub div mul add of_int of_bits
one_more = (refl, refl)

pub not_999 : MoreFrom 999 → ⊥
not_999 h =
    let n : 999 * 1863688619 ≤ 1000 * 1861824930 = h there.0.0 there.0.1 there.0.2 there.1 1040190 1861824930 one_more.0 one_more.1 in
    let z : ⊥ = omega (arith, n) in z

pub not_never : NeverMore → ⊥
not_never h =
    let e : negsuc 977561 +ℤ pos 1040191 ≡ negsuc 977561 +ℤ pos 1040190 = given_is (sym one_more.1 ∙ h there.0.0 there.0.1 there.0.2 there.1 1040190 1861824930 one_more.0) in
    let n : ◌≡◌ {A = ℕ} 62629 62628 = ap nat_abs e in
    let z : ⊥ = omega (arith, n) in z

-- ---- 02 (m): near the bound. On a film of one pixel the value is placed on the first limit and read there as the first end, 1,997,999,999 away from it
-- where the axis is 2,000,000,000 long.
pub strayed : (real_place (of_int binary64 (negsuc 999_999_999)) (of_int binary64 (pos 1_000_000_000)) (of_int binary64 (pos 997_999_999)) (limit_of (pos 0) (pos 1)) ≡ given (pos 0))
    × (real_reading (of_int binary64 (negsuc 999_999_999)) (of_int binary64 (pos 1_000_000_000)) (pos 0) (limit_of (pos 0) (pos 1)) ≡ given (of_int binary64 (negsuc 999_999_999)))
unfolding real_place real_reading spot along rising falling within whole_of eq sub div mul add of_int of_bits
strayed = (refl, refl)

-- wrong: within half the bound. On 0..4 and a film of one pixel, 3 is placed at 0 and read there as 0.
abbrev HalfAsFar : Type 0
HalfAsFar =
    (fa fb fv reading : Float) (a b v place : ℤ) (limit : Limit) → IsWhole fa a → IsWhole fb b → IsWhole fv v → outside v a b ≡ false → real_place fa fb fv limit ≡ given place
    → real_reading fa fb place limit ≡ given reading → Away ◌≤◌ (2 * pixels limit) reading v (distance a b + 1)

pub not_half_as_far : HalfAsFar → ⊥
unfolding real_place real_reading spot along rising falling within whole_of eq sub div mul add of_int of_bits
not_half_as_far h =
    true≢false
    (sym
    (le-leb _ _
    (h (of_int binary64 (pos 0)) (of_int binary64 (pos 4)) (of_int binary64 (pos 3)) (of_int binary64 (pos 0)) (pos 0) (pos 4) (pos 3) (pos 0) (limit_of (pos 0) (pos 1)) refl refl refl refl refl refl)))

-- wrong: of values off the axis too. On 0..1 and a film of one pixel, 2 is placed at 2, where nothing is read.
abbrev OffTheAxis : Type 0
OffTheAxis =
    (fa fb fv : Float) (a b v place : ℤ) (limit : Limit) → IsWhole fa a → IsWhole fb b → IsWhole fv v → real_place fa fb fv limit ≡ given place
    → (reading : Float) × (real_reading fa fb place limit ≡ given reading)

pub not_off_the_axis : OffTheAxis → ⊥
unfolding real_place real_reading spot along rising falling within whole_of eq sub div mul add of_int of_bits
not_off_the_axis h =
    not_none (h (of_int binary64 (pos 0)) (of_int binary64 (pos 1)) (of_int binary64 (pos 2)) (pos 0) (pos 1) (pos 2) (pos 2) (limit_of (pos 0) (pos 1)) refl refl refl refl).1
