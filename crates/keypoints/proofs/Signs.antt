-- A number that is not below zero, by a granularity above zero: rounded to a multiple of it, it is not below zero either. Assumes nothing.
use mathlib.Core.Path.{◌≡◌, refl, sym, ap, subst, ◌∙◌}
use mathlib.Core.Bool.{Bool, true, false, true≢false, false≢true}
use mathlib.Core.Logic.{◌⊎◌, inl, inr}
use Prim.Native.Nat.{ℕ, zero, suc, ◌+◌, ◌*◌, ◌<◌}
use native.Mathlib.Nat.{mul-pos, zero-mul, zero-mod}
use native.Mathlib.Omega.{arith}
use borrow.Author.Tests.{ltb-true, le-ltb, eq-eqb, ne_eqb}
use lib.Dec.{eqb}
use lib.Ieee.{Float, nan, inf, fin, binary64, up, down, of_bits, round, unlike, lt, mul, div}
use lib.Ieee.Fits.{up_pos, down_pos}
use lib.Ieee.Scale.{round_same}
use Rattle.ranged1d.proofs.Bools.{chosen}
use Rattle.rounding.specs.Integral.{integral, round_of, halves, is_whole, sized}
use Rattle.rounding.specs.Operations.{◌⊗◌, ◌⊘◌}
use Rattle.rounding.proofs.Order.{eq_zero}
use Rattle.rounding.proofs.Small.{rounded}
use Rattle.rounding.proofs.Sizes.{stays_whole}
use Rattle.rounding.proofs.Steps.{not_below}
use Rattle.keypoints.specs.Scale.{nil}
use Rattle.keypoints.specs.Marks.{shifted}
use Rattle.keypoints.specs.declared.Run.{Run}

-- no sign, or a zero; a NaN too
abbrev Up : Float → Type 0
Up nan = Unit {0}
Up (inf s) = s ≡ false
Up (fin s m e) = (s ≡ false) ⊎ (m * up e ≡ 0)

-- no sign, and no zero
abbrev Over : Float → Type 0
Over nan = ⊥
Over (inf s) = s ≡ false
Over (fin s m e) = (s ≡ false) × (0 < m)

up_of : (x : Float) → lt x nil ≡ false → Up x
unfolding lt of_bits
up_of nan h = tt
up_of (inf s) h = h
up_of (fin true m e) h = inr (not_below m e h)
up_of (fin false m e) h = inl refl

over_of : (g : Float) → lt nil g ≡ true → Over g
unfolding lt of_bits
over_of nan h = false≢true h
over_of (inf true) h = absurd (false≢true h)
over_of (inf false) h = refl
over_of (fin true n d) h = absurd (false≢true h)
over_of (fin false n d) h = (refl, some n (ltb-true (0 * down d) (n * up d * 1) h))
  where
    some : (n : ℕ) → 0 * down d < n * up d * 1 → 0 < n
    some zero l = omega arith
    some (suc n) l = omega arith

up_below : (y : Float) → Up y → lt y nil ≡ false
unfolding lt of_bits
up_below nan u = refl
up_below (inf s) u = u
up_below (fin false m e) u = le-ltb (m * up e * 1) (0 * down e) (omega arith)
up_below (fin true m e) (inl s) = absurd (true≢false s)
up_below (fin true m e) (inr z) = le-ltb 0 (m * up e * 1 + 0 * down e) (omega arith)

-- a fraction without sign, and one of zero
at_zero : Up (round binary64 true 0 1)
unfolding round
at_zero = inr refl

up_round : (s : Bool) (n d : ℕ) → 0 < d → (s ≡ false) ⊎ (n ≡ 0) → Up (round binary64 s n d)
up_round true n d p (inl e) = absurd (true≢false e)
up_round false n d p u = rounded Up binary64 false (λ m e. inl refl) refl n d
up_round true n d p (inr e) = subst Up (sym (ap (λ (k : ℕ). round binary64 true k d) e ∙ round_same binary64 true 0 d 0 1 p (omega arith) (simp zero-mul))) at_zero

-- ---- the three steps of `shifted`
up-div : (x g : Float) → Up x → Over g → Up (x ⊘ g)
unfolding div
up-div nan g u o = tt
up-div (inf s) (inf t) u o = tt
up-div (inf true) (fin t n d) u o = absurd (true≢false u)
up-div (inf false) (fin true n d) u o = absurd (true≢false o.0)
up-div (inf false) (fin false n d) u o = refl
up-div (fin s m e) (inf t) u o = inr refl
up-div (fin s m e) (fin true n d) u o = absurd (true≢false o.0)
up-div (inf s) nan u o = elim o [ ]
up-div (fin s m e) nan u o = elim o [ ]
up-div (fin s m e) (fin false n d) u o =
    rw (ne_eqb n 0 (λ z. omega (arith, z, o.1)))
    (up_round (unlike s false) (m * up e * down d) (n * up d * down e) (mul-pos (mul-pos o.1 (up_pos d)) (down_pos e)) (scaled s u))
  where
    scaled : (s : Bool) → (s ≡ false) ⊎ (m * up e ≡ 0) → (unlike s false ≡ false) ⊎ (m * up e * down d ≡ 0)
    scaled true (inl q) = absurd (true≢false q)
    scaled false u = inl refl
    scaled true (inr z) = inr (rw z (simp zero-mul))

up-mul : (y g : Float) → Up y → Over g → Up (y ⊗ g)
unfolding mul
up-mul nan g u o = tt
up-mul (inf true) g u o = absurd (true≢false u)
up-mul (inf false) (inf true) u o = absurd (true≢false o)
up-mul (inf false) (inf false) u o = refl
up-mul (inf false) (fin true n d) u o = absurd (true≢false o.0)
up-mul (inf false) (fin false n d) u o = chosen Up (eqb n 0) tt refl
up-mul (fin s m e) (inf true) u o = absurd (true≢false o)
up-mul (fin true m e) (inf false) (inl q) o = absurd (true≢false q)
up-mul (fin true m e) (inf false) (inr z) o = rw (eq-eqb m 0 (eq_zero m (up e) (up_pos e) z)) tt
up-mul (fin false m e) (inf false) u o = chosen Up (eqb m 0) tt refl
up-mul (fin s m e) (fin true n d) u o = absurd (true≢false o.0)
up-mul (inf false) nan u o = elim o [ ]
up-mul (fin s m e) nan u o = elim o [ ]
up-mul (fin s m e) (fin false n d) u o = up_round (unlike s false) (m * up e * (n * up d)) (down e * down d) (mul-pos (down_pos e) (down_pos d)) (scaled s u)
  where
    scaled : (s : Bool) → (s ≡ false) ⊎ (m * up e ≡ 0) → (unlike s false ≡ false) ⊎ (m * up e * (n * up d) ≡ 0)
    scaled true (inl q) = absurd (true≢false q)
    scaled false u = inl refl
    scaled true (inr z) = inr (rw z (simp zero-mul))

up-whole : (y : Float) → Up y → Up (round_of y)
unfolding integral
up-whole nan u = tt
up-whole (inf s) u = u
up-whole (fin s m e) (inl q) = chosen Up (is_whole m e) (inl q) (up_round s (sized halves s (m * up e) (down e)) 1 (omega arith) (inl q))
up-whole (fin s m e) (inr z) = subst Up (sym (stays_whole binary64 halves s m e (rw z (zero-mod (down e))))) (inr z)

-- ---- so a distance that is not below zero stays
pub stays : (r : Run) (x : Float) → lt nil r.grain ≡ true → lt x nil ≡ false → x ≡ shifted r x
unfolding shifted
stays r x o h =
    let g = r.grain in
    let above = over_of g o in
    rw (up_below (round_of (x ⊘ g) ⊗ g) (up-mul (round_of (x ⊘ g)) g (up-whole (x ⊘ g) (up-div x g (up_of x h) above)) above))
