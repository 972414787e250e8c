-- Values and readings of a whole axis, by the tests that lead to each answer. Assumes nothing.
use mathlib.Core.Path.{◌≡◌, refl, sym, ap, ◌∙◌}
use mathlib.Core.Bool.{Bool, true, false, cond, not, ◌&&◌}
use mathlib.Core.List.{List, [], ◌∷◌, map}
use Prim.Native.Nat.{ℕ, suc, ◌-◌, ◌≤◌}
use native.Mathlib.Omega.{arith}
use lib.IntN.{ℤ, pos, negsuc, nat_abs, ◌+ℤ◌}
use lib.Signed.{lt_z}
use borrow.Author.Tests.{le-ltb}
use Rattle.ranged1d.specs.Answer.{Answer, given, none, refused, Reason, ◌when◌, lowest, and_then}
use Rattle.ranged1d.specs.Admitted.{reading_admitted}
use Rattle.ranged1d.specs.declared.Limit.{Limit}
use Rattle.ranged1d.proofs.Whole.{sub_cases, both_near}
use Rattle.discrete.specs.Index.{index_for, pixel_index}
use Rattle.numeric.specs.Whole.{ends_admitted, count_of, above_i32, value_at, value_from, no_reading, read_index, whole_reading}

pub ends-near : (a b : ℤ) → ends_admitted a b ≡ true → (nat_abs a ≤ 1000000000) × (nat_abs b ≤ 1000000000)
ends-near = both_near 1000000000

-- what lies past an admitted end is no less than its bound, such as the least i32
pub not_too_low : (m : ℕ) (a : ℤ) (k : ℕ) → nat_abs a ≤ suc m → lt_z (a +ℤ pos k) (negsuc m) ≡ false
not_too_low m (pos n) k h = refl
not_too_low m (negsuc n) k h = sub_cases k (suc n) (λ z. lt_z z (negsuc m) ≡ false) (λ l. le-ltb m (suc n - suc k) (omega arith)) (λ l. refl)

-- ---- a reading is the value at the pixel's index, where it has one: what speaks against the value counts only there
abbrev gate : Bool → Reason → Reason
gate u r = r.number when (not u && r.applies)

gated : {A : Type 0} (u : Bool) (rs : List Reason) (r : Answer A) → lowest (map (gate u) rs) (cond u none r) ≡ cond u none (lowest rs r)
gated true [] r = refl
gated true (x ∷ xs) r = gated true xs r
gated false [] r = refl
gated false (x ∷ xs) r = ap (cond x.applies (refused x.number)) (gated false xs r)

-- t: pixel and limits are admitted; u: the pixel has no index; k: its index; f: the values, and at k the reasons rs against it
pub read_by : (t u : Bool) (k : ℕ) (rs : List Reason) (at : Answer ℤ) (f : ℕ → Answer ℤ) → f k ≡ lowest rs at
    → lowest (2 when not t ∷ map (gate u) rs) (cond u none at) ≡ and_then (lowest (2 when not t ∷ []) (cond u none (given k))) f
read_by false u k rs at f e = refl
read_by true true k rs at f e = gated true rs at
read_by true false k rs at f e = gated false rs at ∙ sym e

abbrev pub then_value : ℤ → Answer ℕ → Answer ℤ
then_value a r = and_then r (value_from a)

pub by_index : (a b x : ℤ) (l : Limit) → ends_admitted a b ≡ true → whole_reading a b x l ≡ then_value a (pixel_index x l (count_of a b))
unfolding whole_reading value_from pixel_index index_for
by_index a b x l e =
    let k = read_index a b x l in
    rw e (read_by (reading_admitted x l) (no_reading a b x l) k (10 when above_i32 a k ∷ []) (value_at a k) (value_from a) refl)

pub no_reading_off : (a b x : ℤ) (l : Limit) → ends_admitted a b ≡ false → ◌≡◌ {A = Answer ℤ} (refused 1) (whole_reading a b x l)
unfolding whole_reading
no_reading_off a b x l e = rw e refl
