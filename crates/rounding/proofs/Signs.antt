-- Negation: what leads down from x leads up from -x, and rounding half away from zero is odd; as floats and as whole numbers. Assumes nothing.
use Rattle.std.specs.Prelude.{Option, Some, None}
use Rattle.std.proofs.Common.{◌≡◌, ℕ, zero, suc, ◌+◌, ◌*◌, ◌^◌, ◌<◌, Bool, true, false, cond, not, ltb, leb, ℤ, pos, neg_ℤ, nat_abs, sym, refl, ap, ◌∙◌, add_comm, arith, ltb-true, le-ltb}
use lib.IntN.{neg_ℤ-neg_ℤ}
use lib.Ieee.{Float, nan, inf, fin, Format, prec, emax, low, up, down, odd, units, round, neg, lt}
use Rattle.ranged1d.proofs.Whole.{neg-far}
use Rattle.rounding.specs.Integral.{Way, floors, ceils, halves, integral, is_whole, sized}
use Rattle.rounding.specs.Within.{signed, whole_of, kept, within}

-- the way of the mirrored number
abbrev pub turned : Way → Way
turned floors = ceils
turned ceils = floors
turned halves = halves

-- the whole number of the mirrored number
abbrev pub negated : Option ℤ → Option ℤ
negated (Some z) = Some (neg_ℤ z)
negated None = None

pub neg-neg : (x : Float) → neg (neg x) ≡ x
unfolding neg
neg-neg nan = refl
neg-neg (inf true) = refl
neg-neg (inf false) = refl
neg-neg (fin true m e) = refl
neg-neg (fin false m e) = refl

-- negation turns the order round
pub lt_neg : (x y : Float) → lt (neg x) (neg y) ≡ lt y x
unfolding lt neg
lt_neg nan nan = refl
lt_neg nan (inf t) = refl
lt_neg nan (fin t b d) = refl
lt_neg (inf s) nan = refl
lt_neg (inf true) (inf true) = refl
lt_neg (inf true) (inf false) = refl
lt_neg (inf false) (inf true) = refl
lt_neg (inf false) (inf false) = refl
lt_neg (inf true) (fin t b d) = refl
lt_neg (inf false) (fin t b d) = refl
lt_neg (fin s a e) nan = refl
lt_neg (fin s a e) (inf true) = refl
lt_neg (fin s a e) (inf false) = refl
lt_neg (fin false a e) (fin false b d) = refl
lt_neg (fin false a e) (fin true b d) = ap (ltb 0) (add_comm (a * up e * down d) (b * up d * down e))
lt_neg (fin true a e) (fin false b d) = refl
lt_neg (fin true a e) (fin true b d) = refl

-- ---- rounding to a format is odd
odd_neg : (d : ℕ) (s : Bool) (q k l : ℕ) → odd d (not s) q k l ≡ neg (odd d s q k l)
unfolding odd neg
odd_neg d s zero k l = refl
odd_neg d s (suc q) k l = refl

-- a choice between two numbers that are both negated
pub either_neg : (b : Bool) (x y : Float) {x' y' : Float} → x' ≡ neg x → y' ≡ neg y → cond b x' y' ≡ neg (cond b x y)
either_neg true x y p q = p
either_neg false x y p q = q

inf_neg : (s : Bool) → inf (not s) ≡ neg (inf s)
unfolding neg
inf_neg s = refl

units_neg : (f : Format) (s : Bool) (q k : ℕ) → units f (not s) q k ≡ neg (units f s q k)
unfolding units
units_neg f s q k = either_neg (ltb (q * 2 ^ k) (2 ^ (low f + suc (emax f)))) _ _ (odd_neg (suc (prec f)) s q k (low f)) (inf_neg s)

pub round-neg : (f : Format) (s : Bool) (n d : ℕ) → round f (not s) n d ≡ neg (round f s n d)
unfolding round
round-neg f s n d = units_neg f s _ _

-- ---- the float form
sized-neg : (w : Way) (s : Bool) (n d : ℕ) → sized w (not s) n d ≡ sized (turned w) s n d
sized-neg floors false n d = refl
sized-neg floors true n d = refl
sized-neg ceils false n d = refl
sized-neg ceils true n d = refl
sized-neg halves s n d = refl

pub neg_fin : (s : Bool) (m : ℕ) (e : ℤ) → fin (not s) m e ≡ neg (fin s m e)
unfolding neg
neg_fin s m e = refl

pub integral-neg : (f : Format) (w : Way) (x : Float) → integral f w (neg x) ≡ neg (integral f (turned w) x)
unfolding integral neg
integral-neg f w nan = refl
integral-neg f w (inf s) = refl
integral-neg f w (fin s m e) =
    either_neg (is_whole m e) _ _ (neg_fin s m e)
    (ap (λ (k : ℕ). round f (not s) k 1) (sized-neg w s (m * up e) (down e)) ∙ round-neg f s (sized (turned w) s (m * up e) (down e)) 1)

-- the way back: what a function that goes by the mirrored number returns
pub integral-turned : (f : Format) (w : Way) (x : Float) → neg (integral f w (neg x)) ≡ integral f (turned w) x
integral-turned f w x = ap neg (integral-neg f w x) ∙ neg-neg (integral f (turned w) x)

pub ruleset ceilings = (integral-turned)

-- ---- the whole form
signed-neg : (s : Bool) (k : ℕ) → signed (not s) k ≡ neg_ℤ (signed s k)
signed-neg false k = refl
signed-neg true k = sym (neg_ℤ-neg_ℤ (pos k))

kept-neg : (b : ℕ) (z : ℤ) → kept b (neg_ℤ z) ≡ negated (kept b z)
kept-neg b z = rw (neg-far z) (go (leb (nat_abs z) b))
  where
    go : (t : Bool) → cond t (Some (neg_ℤ z)) None ≡ negated (cond t (Some z) None)
    go true = refl
    go false = refl

pub whole_neg : (w : Way) (x : Float) → whole_of w (neg x) ≡ neg_ℤ (whole_of (turned w) x)
unfolding whole_of neg
whole_neg w nan = refl
whole_neg w (inf s) = refl
whole_neg w (fin s m e) = ap (signed (not s)) (sized-neg w s (m * up e) (down e)) ∙ signed-neg s (sized (turned w) s (m * up e) (down e))

pub within-neg : (w : Way) (b : ℕ) (x : Float) → within w b (neg x) ≡ negated (within (turned w) b x)
unfolding within neg
within-neg w b nan = refl
within-neg w b (inf s) = refl
within-neg w b (fin s m e) = ap (kept b) (at s m e) ∙ kept-neg b (whole_of (turned w) (fin s m e))
  where
    at : (s : Bool) (m : ℕ) (e : ℤ) → whole_of w (fin (not s) m e) ≡ neg_ℤ (whole_of (turned w) (fin s m e))
    at s m e = whole_neg w (fin s m e)

pub negated_twice : (v : Option ℤ) → negated (negated v) ≡ v
negated_twice (Some z) = ap Some (neg_ℤ-neg_ℤ z)
negated_twice None = refl

-- the way back
pub within-turned : (w : Way) (b : ℕ) (x : Float) → within (turned w) b x ≡ negated (within w b (neg x))
within-turned w b x = sym (negated_twice (within (turned w) b x)) ∙ ap negated (sym (within-neg w b x))

-- ---- a number below zero, negated, is not
abbrev pub zero_f : Float
zero_f = fin false 0 (pos 0)

pub neg-above : (x : Float) → lt x zero_f ≡ true → lt (neg x) zero_f ≡ false
unfolding lt neg
neg-above nan h = refl
neg-above (inf true) h = refl
neg-above (inf false) h = sym h
neg-above (fin true m e) h = le-ltb (m * up e * 1) (0 * down e) (omega arith)
neg-above (fin false m e) h = let l : m * up e * 1 < 0 * down e = ltb-true (m * up e * 1) (0 * down e) h in absurd (omega arith)
