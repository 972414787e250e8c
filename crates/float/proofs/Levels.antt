-- Shortening as a way down and a way back: what the two loops keep. Assumes nothing.
use mathlib.Core.Path.{◌≡◌, refl, sym, ap, ◌∙◌}
use mathlib.Core.Bool.{true, false}
use mathlib.Core.List.{List, [], ◌∷◌, ◌++◌}
use Prim.Native.Nat.{ℕ, suc, ◌+◌, ◌-◌, ◌≤◌, ◌<◌}
use native.Mathlib.Numerals.{add-one}
use native.Mathlib.Omega.{arith}
use lib.ListN.{length, take, set, get_or}
use lib.Seq.{take-suc, take-suc-set}
use lib.Ieee.{Float, nan, binary64, add, sub, mul, div, lt, le}
use Rattle.std.proofs.Common.{reverse}
use Rattle.std.specs.List.{fold}
use Rattle.std.proofs.lemmas.List.Sums.{fold-append}
use Rattle.std.proofs.lemmas.Grind.{reverse_onto}
use Rattle.rounding.specs.Integral.{floor_of, ceil_of}
use Rattle.float.specs.declared.Shortened.{Shortened}
use Rattle.float.specs.Shorten.{shorten, one, ten, plain, inner}
use Rattle.float.specs.Steps.{above, back}
use Rattle.float.proofs.Cases.{level, shorten-none, shorten-some}

pub back_none : (r : Shortened) → back [] r ≡ r
unfolding back
back_none r = refl

pub down-none : (left : ℕ) (x t : Float) → back [] (shorten (left - 0) x t) ≡ shorten left x t
down-none left x t = let e : left - 0 ≡ left = omega arith in back_none (shorten (left - 0) x t) ∙ ap (λ (k : ℕ). shorten k x t) e

-- the last floor is the first on the way back
pub back_last : (l : List Float) (f : Float) (r : Shortened) → back (l ++ (f ∷ [])) r ≡ back l (above f r)
unfolding back
back_last [] f r = refl
back_last (g ∷ l) f r = ap (above g) (back_last l f r)

-- ---- the way down: k levels are behind, and x with the tolerance t is where it stands
module _ (l : List Float) (left k : ℕ) (x t : Float) (s : Shortened) (e : back (take k l) (shorten (left - k) x t) ≡ s) where
  pub down_out : left ≤ k → back (take k l) (plain x) ≡ s
  down_out h = ap (back (take k l)) (sym (shorten-none (left - k) x t (omega arith))) ∙ e

  module _ (h : k < left) where
    -- what the level says
    at_level : back (take k l) (level x t (shorten (left - k - 1) (inner x) (mul binary64 t ten))) ≡ s
    at_level = ap (back (take k l)) (sym (shorten-some (left - k) x t (λ z. omega arith))) ∙ e

    pub down-reached : le one t ≡ true → back (take k l) (plain x) ≡ s
    down-reached p = rw p at at_level

    pub down-floor : le one t ≡ false → lt (sub binary64 x (floor_of x)) t ≡ true → back (take k l) (plain (floor_of x)) ≡ s
    down-floor p q = rw (p, q) at at_level

    pub down-ceil : le one t ≡ false → lt (sub binary64 x (floor_of x)) t ≡ false → lt (sub binary64 (ceil_of x) x) t ≡ true → back (take k l) (plain (ceil_of x)) ≡ s
    down-ceil p q r = rw (p, q, r) at at_level

    pub down-more : k < length l → le one t ≡ false → lt (sub binary64 x (floor_of x)) t ≡ false → lt (sub binary64 (ceil_of x) x) t ≡ false
        → back (take (k + 1) (set l k (floor_of x))) (shorten (left - (k + 1)) (inner x) (mul binary64 t ten)) ≡ s
    down-more u p q r =
        let j : left - (k + 1) ≡ left - k - 1 = omega arith in
        ap (λ (i : ℕ). back (take i (set l k (floor_of x))) (shorten (left - (k + 1)) (inner x) (mul binary64 t ten))) (add-one k)
        ∙ ap (λ (m : List Float). back m (shorten (left - (k + 1)) (inner x) (mul binary64 t ten))) (take-suc-set l k (floor_of x) u)
        ∙ back_last (take k l) (floor_of x) (shorten (left - (k + 1)) (inner x) (mul binary64 t ten))
        ∙ ap (λ (i : ℕ). back (take k l) (above (floor_of x) (shorten i (inner x) (mul binary64 t ten)))) j
        ∙ rw (p, q, r) at at_level

-- ---- the way back
abbrev pub found : Float → ℕ → Shortened
found v n = record { value = v; levels = n }

-- k floors are to go, and one is taken
pub back_more : (l : List Float) (k n : ℕ) (v : Float) (s : Shortened) → 0 < k → k ≤ length l → k ≤ n → back (take k l) (found v (n - k)) ≡ s
    → back (take (k - 1) l) (found (add binary64 (get_or l (k - 1) nan) (div binary64 v ten)) (n - (k - 1))) ≡ s
back_more l k n v s h u w e =
    let j : suc (k - 1) ≡ k = omega arith in
    let i : n - (k - 1) ≡ n - k + 1 = omega arith in
    ap (λ (m : ℕ). back (take (k - 1) l) (found (add binary64 (get_or l (k - 1) nan) (div binary64 v ten)) m)) i
    ∙ sym (back_last (take (k - 1) l) (get_or l (k - 1) nan) (found v (n - k)))
    ∙ ap (λ (m : List Float). back m (found v (n - k))) (sym (take-suc l (k - 1) nan (omega arith)))
    ∙ ap (λ (m : ℕ). back (take m l) (found v (n - k))) j
    ∙ e

-- a fold over the floors, the last one first
abbrev pub climb : Float → Float → Float
climb v f = add binary64 f (div binary64 v ten)

pub back_fold : (l : List Float) (v : Float) → back l (plain v) ≡ found (fold climb v (reverse l)) (length l)
unfolding back
back_fold [] v = refl
back_fold (f ∷ l) v =
    ap (above f) (back_fold l v) ∙ ap (λ (w : Float). found w (length l + 1)) (sym (fold-append climb v (reverse l) (f ∷ [])))
    ∙ ap (λ (r : List Float). found (fold climb v r) (length l + 1)) (sym (reverse_onto l f [])) ∙ ap (found (fold climb v (reverse (f ∷ l)))) (add-one (length l))
