-- The value of each answer: x being ±n / d, the answer is the float of x's sign whose size is `sized`, and the whole form is that value. Assumes nothing.
use Rattle.std.specs.Prelude.{Option, Some}
use Rattle.std.proofs.Common.{◌≡◌, ℕ, ◌-◌, ◌*◌, ◌%◌, ◌^◌, ◌<◌, ◌≤◌, Bool, true, false, not, T, ℤ, nat_abs, sym, refl, ap, ◌∙◌, subst, true≢false, le_trans, lt_of_not-le, mul-one, arith, lit≤, eqb-true}
use lib.Ieee.{Float, nan, inf, fin, Format, binary32, binary64, prec, up, down, fits, round, ne, is_nan}
use lib.Ieee.Fits.{down_pos, cond-fits, round-fits, fits_widens}
use lib.Ieee.Bits.{is_true}
use lib.Ieee.Compare.{differs_from_itself}
use lib.Ieee.Exact.{HasValue}
use lib.Ieee.Back.{round_whole, whole_unique}
use borrow.Author.Tests.{eqb-false}
use Rattle.rounding.specs.Integral.{Way, integral, is_whole, sized}
use Rattle.rounding.specs.Within.{signed, whole_of, kept, within}
use Rattle.rounding.proofs.Quotients.{sized_le, sized-whole}
use Rattle.rounding.proofs.Sizes.{stays_whole, goes, big_whole, own_size}

-- a fraction is left only below 2 ^ (prec - 1)
under_top : (f : Format) (s : Bool) (m : ℕ) (e : ℤ) → fits f (fin s m e) ≡ true → (m * up e % down e ≡ 0 → ⊥) → m * up e < 2 ^ (prec f - 1) * down e
under_top f s m e t h = lt_of_not-le (λ l. h (big_whole f s m e (subst T (sym t) tt) l))

held_by : (f : Format) → 2 ^ (prec f - 1) ≤ 2 ^ prec f
held_by binary32 = lit≤ tt
held_by binary64 = lit≤ tt

pub integral-value : (f : Format) (w : Way) (s : Bool) (m : ℕ) (e : ℤ) → fits f (fin s m e) ≡ true → HasValue (integral f w (fin s m e)) s (sized w s (m * up e) (down e)) 1
integral-value f w s m e t = go (is_whole m e) refl
  where
    go : (b : Bool) → is_whole m e ≡ b → HasValue (integral f w (fin s m e)) s (sized w s (m * up e) (down e)) 1
    go true h =
        let z = eqb-true (m * up e % down e) 0 h in
        rw (stays_whole f w s m e z) (refl, mul-one (m * up e) ∙ sym (own_size w s (m * up e) (down e) (down_pos e) z))
    go false h =
        let z = eqb-false (m * up e % down e) 0 h in
        let l : m * up e ≤ 2 ^ (prec f - 1) * down e = omega (arith, under_top f s m e t z) in
        rw (goes f w s m e z) (round_whole f s (sized w s (m * up e) (down e)) (le_trans (sized_le w s (m * up e) (down e) (2 ^ (prec f - 1)) (down_pos e) l) (held_by f)))

-- the format holds the answer
pub integral_fits : (f : Format) (w : Way) (x : Float) → T (fits f x) → T (fits f (integral f w x))
unfolding integral
integral_fits f w nan t = t
integral_fits f w (inf s) t = t
integral_fits f w (fin s m e) t = cond-fits f (is_whole m e) (fin s m e) (round f s (sized w s (m * up e) (down e)) 1) t (round-fits f s (sized w s (m * up e) (down e)) 1)

-- an f32 has the same answer as the f64 of its value
pub both_widths : (w : Way) (x : Float) → T (fits binary32 x) → integral binary64 w x ≡ integral binary32 w x
unfolding integral
both_widths w nan t = refl
both_widths w (inf s) t = refl
both_widths w (fin s m e) t =
    whole_unique binary64 (integral binary64 w (fin s m e)) (integral binary32 w (fin s m e)) s (sized w s (m * up e) (down e))
    (integral_fits binary64 w (fin s m e) (fits_widens (fin s m e) t))
    (fits_widens (integral binary32 w (fin s m e)) (integral_fits binary32 w (fin s m e) t))
    (integral-value binary64 w s m e (is_true (fits binary64 (fin s m e)) (fits_widens (fin s m e) t)))
    (integral-value binary32 w s m e (is_true (fits binary32 (fin s m e)) t))

-- ---- no answer but that of a NaN is one
pub number : (x : Float) → ne x x ≡ false → T (not (is_nan x))
unfolding ne is_nan
number nan h = true≢false h
number (inf s) h = tt
number (fin s m e) h = tt

valued_number : (y : Float) (s : Bool) (k : ℕ) → HasValue y s k 1 → T (not (is_nan y))
unfolding is_nan
valued_number nan s k v = elim v [ ]
valued_number (inf _) s k v = elim v [ ]
valued_number (fin u m e) s k v = tt

pub integral-number : (f : Format) (w : Way) (x : Float) → fits f x ≡ true → T (not (is_nan x)) → T (not (is_nan (integral f w x)))
unfolding integral
integral-number f w nan t h = h
integral-number f w (inf s) t h = h
integral-number f w (fin s m e) t h = valued_number (integral f w (fin s m e)) s (sized w s (m * up e) (down e)) (integral-value f w s m e t)

pub stays_nan : (f : Format) (w : Way) (x : Float) → ne x x ≡ true → integral f w x ≡ x
unfolding integral
stays_nan f w x h = let e = differs_from_itself x (subst T (sym h) tt) in ap (integral f w) e ∙ sym e

-- ---- a float of a whole value is that whole number by every way
pub within_of : (w : Way) (b : ℕ) (y : Float) (s : Bool) (k : ℕ) → HasValue y s k 1 → within w b y ≡ kept b (signed s k)
unfolding within whole_of
within_of w b nan s k v = elim v [ ]
within_of w b (inf _) s k v = elim v [ ]
within_of w b (fin u m e) s k v =
    let d = down e in
    ap (λ (n : ℕ). kept b (signed u (sized w u n d))) (sym (mul-one (m * up e)) ∙ v.1)
    ∙ ap (λ (j : ℕ). kept b (signed u j)) (sized-whole w u k d (down_pos e))
    ∙ ap (λ (t : Bool). kept b (signed t k)) v.0

pub within-integral : (f : Format) (v w : Way) (b : ℕ) (x : Float) → fits f x ≡ true → within v b (integral f w x) ≡ within w b x
unfolding within whole_of integral
within-integral f v w b nan t = refl
within-integral f v w b (inf s) t = refl
within-integral f v w b (fin s m e) t = within_of v b (integral f w (fin s m e)) s (sized w s (m * up e) (down e)) (integral-value f w s m e t)

-- v is a number of size b at most
abbrev pub Told : Option ℤ → ℕ → Type 0
Told v b = (z : ℤ) × (v ≡ Some z) × (nat_abs z ≤ b)
