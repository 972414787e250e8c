-- Two floats of one sign compared, by the fractions that they equal. Assumes nothing.
use Rattle.std.proofs.Common.{◌≡◌, ℕ, ◌*◌, ◌<◌, ◌≤◌, Bool, true, false, ltb, ℤ, sym, refl, ◌∙◌, subst, true≢false, lt_of_not-le, mul-one, not-le_of_lt, ltb-false, ltb-true}
use mathlib.Core.Bool.{false≢true}
use lib.Ieee.{Float, fin, up, down, lt, inf, nan}
use lib.Ieee.Fits.{down_pos}
use lib.Ieee.Exact.{HasValue}
use lib.Ieee.Order.{transfer}

-- what a test for a < b that came out as t says
abbrev pub Says : Bool → ℕ → ℕ → Type 0
Says true a b = a < b
Says false a b = b ≤ a

-- the same of ±a < ±b
abbrev pub Tells : Bool → Bool → ℕ → ℕ → Type 0
Tells false t a b = Says t a b
Tells true t a b = Says t b a

pub says : (a b : ℕ) (t : Bool) → ltb a b ≡ t → Says t a b
says a b true h = ltb-true a b h
says a b false h = ltb-false a b h

-- x / e < y / g says that a / b < c / d, where x / e is a / b and y / g is c / d
crossed : (t : Bool) (x e y g a b c d : ℕ) → 0 < e → 0 < g → 0 < b → 0 < d → x * b ≡ a * e → y * d ≡ c * g → Says t (x * g) (y * e) → Says t (a * d) (c * b)
crossed false x e y g a b c d pe pg pb pd hx hy h = transfer c a d b y x g e pg pe (sym hy) (sym hx) h
crossed true x e y g a b c d pe pg pb pd hx hy h = lt_of_not-le (λ k. not-le_of_lt h (transfer y x g e c a d b pd pb hy hx k))

-- ±a / b < ±c / d
pub compared : (s t : Bool) (x y : Float) (a b c d : ℕ) → 0 < b → 0 < d → HasValue x s a b → HasValue y s c d → lt x y ≡ t → Tells s t (a * d) (c * b)
unfolding lt
compared s t (fin false m e) (fin true n g) a b c d pb pd v w h = absurd (true≢false (w.0 ∙ sym v.0))
compared s t (fin true m e) (fin false n g) a b c d pb pd v w h = absurd (true≢false (v.0 ∙ sym w.0))
compared true t (fin false m e) (fin false n g) a b c d pb pd v w h = absurd (false≢true v.0)
compared false t (fin true m e) (fin true n g) a b c d pb pd v w h = absurd (true≢false v.0)
compared false t (fin false m e) (fin false n g) a b c d pb pd v w h =
    crossed t (m * up e) (down e) (n * up g) (down g) a b c d (down_pos e) (down_pos g) pb pd v.1 w.1 (says (m * up e * down g) (n * up g * down e) t h)
compared s t nan y a b c d pb pd v w h = elim v [ ]
compared s t (inf _) y a b c d pb pd v w h = elim v [ ]
compared s t (fin false m e) nan a b c d pb pd v w h = elim w [ ]
compared s t (fin false m e) (inf _) a b c d pb pd v w h = elim w [ ]
compared s t (fin true m e) nan a b c d pb pd v w h = elim w [ ]
compared s t (fin true m e) (inf _) a b c d pb pd v w h = elim w [ ]
compared true t (fin true m e) (fin true n g) a b c d pb pd v w h =
    crossed t (n * up g) (down g) (m * up e) (down e) c d a b (down_pos g) (down_pos e) pd pb w.1 v.1 (says (n * up g * down e) (m * up e * down g) t h)

-- a number's own fraction
pub own : (s : Bool) (m : ℕ) (e : ℤ) → HasValue (fin s m e) s (m * up e) (down e)
own s m e = (refl, refl)

-- ±n / d against ±k
pub under : (s t : Bool) (m : ℕ) (e : ℤ) (y : Float) (k : ℕ) → HasValue y s k 1 → lt (fin s m e) y ≡ t → Tells s t (m * up e) (k * down e)
under s t m e y k v h =
    subst (λ (z : ℕ). Tells s t z (k * down e)) (mul-one (m * up e))
    (compared s t (fin s m e) y (m * up e) (down e) k 1 (down_pos e) (native.Mathlib.Nat.zero-lt-suc 0) (own s m e) v h)

pub over : (s t : Bool) (m : ℕ) (e : ℤ) (y : Float) (k : ℕ) → HasValue y s k 1 → lt y (fin s m e) ≡ t → Tells s t (k * down e) (m * up e)
over s t m e y k v h =
    subst (λ (z : ℕ). Tells s t (k * down e) z) (mul-one (m * up e))
    (compared s t y (fin s m e) k 1 (m * up e) (down e) (native.Mathlib.Nat.zero-lt-suc 0) (down_pos e) v (own s m e) h)
