-- The rules case by case, from the tests that the code makes. Assumes nothing.
use Rattle.std.specs.Prelude.{Option, Some, None}
use mathlib.Core.Path.{◌≡◌, refl, sym, ap, ◌∙◌}
use mathlib.Core.Bool.{Bool, true, false, true≢false}
use Prim.Native.Nat.{ℕ, ◌*◌, ◌^◌, ◌≤◌, ◌<◌, zero-le}
use native.Mathlib.Nat.{zero-mul, mul-pos}
use native.Mathlib.Omega.{arith}
use lib.IntN.{ℤ, pos, negsuc, nat_abs}
use lib.Signed.{le_z, lt_z}
use lib.Ieee.{Float, nan, inf, fin, binary64, up, down, unlike, add, mul, eq, of_int}
use lib.Ieee.Fits.{down_pos}
use lib.Ieee.Exact.{HasValue}
use borrow.Author.Tests.{ltb-true, le-leb, ne_eqb}
use Rattle.ranged1d.specs.declared.Limit.{Limit}
use Rattle.ranged1d.specs.Admitted.{pixel_admitted, limit_admitted}
use Rattle.ranged1d.specs.Numbers.{low, high}
use Rattle.ranged1d.proofs.Bools.{both_false, chosen}
use Rattle.ranged1d.proofs.Whole.{not_lt, both_near, between-far}
use Rattle.rounding.specs.Integral.{Way}
use Rattle.rounding.specs.Within.{within}
use Rattle.rounding.proofs.Bounds.{Held, within_held}
use Rattle.rounding.proofs.Signs.{negated}
use Rattle.real.specs.Place.{farthest, along, product, is_beyond, number}
use Rattle.real.specs.Reading.{outside}
use Rattle.real.proofs.Signs.{int_value}

-- ---- `along`
pub along-none : (p q l : ℤ) (t : Float) → l ≡ pos 0 → along p q l t ≡ Some q
unfolding along
along-none p q l t e = rw e

-- The steps of a film of length l, from those of one that runs upward; and by the test that the code makes
abbrev pub facing : ℤ → Option ℤ → Option ℤ
facing (pos l) w = w
facing (negsuc l) w = negated w

pub facing_up : (l : ℤ) (w : Option ℤ) → lt_z l (pos 0) ≡ false → facing l w ≡ w
facing_up (pos n) w h = refl
facing_up (negsuc n) w h = absurd (true≢false h)

pub facing_down : (l : ℤ) (w : Option ℤ) → lt_z l (pos 0) ≡ true → facing l w ≡ negated w
facing_down (pos n) w h = absurd (omega (arith, ltb-true n 0 h))
facing_down (negsuc n) w h = refl

pub facing_beyond : (l : ℤ) → facing l None ≡ None
facing_beyond (pos n) = refl
facing_beyond (negsuc n) = refl

-- ---- The whole number that is added to p, within a bound b: w is `floors` and d a thousandth, or w is `ceils` and d minus that
abbrev pub steps : Way → ℕ → Float → ℤ → Float → Option ℤ
steps w b d l t = within w b (add binary64 (product l t) d)

pub steps_near : (w : Way) (b : ℕ) (x : Float) → b ≤ farthest → nat_abs (number (within w b x)) ≤ farthest
steps_near w b x l = go (within w b x) (within_held w b x)
  where
    go : (v : Option ℤ) → Held b v → nat_abs (number v) ≤ farthest
    go (Some z) h = omega arith
    go None h = zero-le

-- an infinite t leads beyond, unless L is 0
times_inf : (x : Float) (s : Bool) (k : ℕ) (u : Bool) → HasValue x s k 1 → 0 < k → (v : Bool) × (mul binary64 x (inf u) ≡ inf v)
unfolding mul
times_inf nan s k u h p = elim h [ ]
times_inf (inf _) s k u h p = elim h [ ]
times_inf (fin w m e) s k u h p = (unlike w u, rw (ne_eqb m 0 (λ z. no z)))
  where
    no : m ≡ 0 → ⊥
    no z = let d : 0 < k * down e = mul-pos p (down_pos e) in let a : m * up e ≡ 0 = ap (λ (i : ℕ). i * up e) z ∙ zero-mul (up e) in omega (arith, h.1)

product_inf : (l : ℤ) (u : Bool) → nat_abs l ≤ 2 ^ 53 → 0 < nat_abs l → (v : Bool) × (product l (inf u) ≡ inf v)
product_inf l u h p = let x = int_value binary64 l h in times_inf (of_int binary64 l) x.0 (nat_abs l) u x.1 p

is_inf : (t : Float) (u : Bool) → eq t (inf u) ≡ true → t ≡ inf u
unfolding eq
is_inf nan u h = absurd (true≢false (sym h))
is_inf (inf true) true h = refl
is_inf (inf true) false h = absurd (true≢false (sym h))
is_inf (inf false) true h = absurd (true≢false (sym h))
is_inf (inf false) false h = refl
is_inf (fin s m e) u h = absurd (true≢false (sym h))

module _ (w : Way) (b : ℕ) (s : Bool) (m : ℕ) (e : ℤ) (l : ℤ) (held : nat_abs l ≤ 2 ^ 53) (some : 0 < nat_abs l) where
  steps_inf : (u : Bool) → is_beyond (steps w b (fin s m e) l (inf u)) ≡ true
  unfolding within add
  steps_inf u = rw (product_inf l u held some).1

  -- so that a t that does not is not infinite
  pub no_end : (t : Float) → is_beyond (steps w b (fin s m e) l t) ≡ false → (u : Bool) → eq t (inf u) ≡ false
  no_end t n u = go (eq t (inf u)) refl
    where
      go : (c : Bool) → eq t (inf u) ≡ c → c ≡ false
      go true h = absurd (true≢false (sym (steps_inf u) ∙ sym (ap (λ (y : Float). is_beyond (steps w b (fin s m e) l y)) (is_inf t u h)) ∙ n))
      go false h = refl

-- ---- admitted limits are near 0
pub near-limits : (limit : Limit) → limit_admitted limit ≡ true → (nat_abs limit.0 ≤ 1_000_000) × (nat_abs limit.1 ≤ 1_000_000)
near-limits limit h = both_near 1_000_000 limit.0 limit.1 h

-- ---- a pixel between the limits is as near 0 as they are
pub inside-admitted : (x : ℤ) (limit : Limit) → limit_admitted limit ≡ true → outside x limit.0 limit.1 ≡ false → pixel_admitted x ≡ true
inside-admitted x limit h o =
    let p = limit.0 in
    let q = limit.1 in
    let n = near-limits limit h in
    let near_zero : ℤ → Type 0 = λ z. nat_abs z ≤ 1_000_000 in
    let w = both_false (lt_z x (low p q)) (lt_z (high p q) x) o in
    le-leb (nat_abs x) 1_000_000
    (between-far 1_000_000 (low p q) x (high p q) (not_lt x (low p q) w.0) (not_lt (high p q) x w.1)
    (chosen near_zero (le_z p q) n.0 n.1) (chosen near_zero (le_z p q) n.1 n.0))
