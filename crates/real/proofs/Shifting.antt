-- 02 (i): a place, once both film limits are c further on. L and t are what they were, so that it moves by c where the ends differ; where they are equal p
-- has no part in it. Assumes nothing.
use Rattle.std.specs.Prelude.{Option, Some, None}
use mathlib.Core.Path.{◌≡◌, refl, sym, ap, ap₂, ◌∙◌}
use mathlib.Core.Bool.{Bool, true, false, not, cond, ◌&&◌}
use Prim.Native.Nat.{zero, suc, ◌^◌, ◌≤◌}
use native.Mathlib.Omega.{arith}
use lib.IntN.{ℤ, pos, negsuc, nat_abs, ◌+ℤ◌, ◌-ℤ◌, +ℤ_comm, +ℤ_assoc}
use lib.Signed.{quot_z}
use lib.Ieee.{Float, inf, binary64, eq, of_int}
use borrow.Author.Tests.{leb-true}
use Rattle.ranged1d.specs.Answer.{given, refused, and_then}
use Rattle.ranged1d.specs.Admitted.{whole_admitted, limit_admitted}
use Rattle.ranged1d.specs.Numbers.{same}
use Rattle.ranged1d.specs.declared.Limit.{Limit}
use Rattle.ranged1d.proofs.Whole.{minus_shift, same_yes, same_is}
use Rattle.real.specs.Place.{share, rising, falling, plus, or_end, along, spot, spot_answer, whole_spot, whole_place}
use Rattle.real.specs.Shifting.{shifted_limit}
use Rattle.real.proofs.Exact.{differ, same_int}

-- what becomes of a place on the whole axis from a to b
abbrev pub shifted_place : ℤ → ℤ → ℤ → ℤ → ℤ
shifted_place c a b x = cond (same a b) x (x +ℤ c)

-- ---- the place at a share
module _ (c p q : ℤ) (t : Float) where
  plus-shifted : (w : Option ℤ) → plus (p +ℤ c) w ≡ plus c (plus p w)
  plus-shifted (Some n) = ap Some (ap (λ (z : ℤ). z +ℤ n) (+ℤ_comm p c) ∙ +ℤ_assoc c p n)
  plus-shifted None = refl

  end-shifted : (w : Option ℤ) → or_end (p +ℤ c) (q +ℤ c) t (plus (p +ℤ c) w) ≡ plus c (or_end p q t (plus p w))
  end-shifted w = go (eq t (inf false)) (eq t (inf true))
    where
      go : (d e : Bool) → cond d (Some (q +ℤ c)) (cond e (Some (p +ℤ c)) (plus (p +ℤ c) w)) ≡ plus c (cond d (Some q) (cond e (Some p) (plus p w)))
      go true e = ap Some (+ℤ_comm q c)
      go false true = ap Some (+ℤ_comm p c)
      go false false = plus-shifted w

  along-shifted : (l : ℤ) → along (p +ℤ c) (q +ℤ c) l t ≡ plus c (along p q l t)
  unfolding along
  along-shifted (pos zero) = ap Some (+ℤ_comm q c)
  along-shifted (pos (suc n)) = end-shifted (rising (pos (suc n)) t)
  along-shifted (negsuc n) = end-shifted (falling (negsuc n) t)

length-shifted : (c p q : ℤ) → (q +ℤ c) -ℤ (p +ℤ c) ≡ q -ℤ p
length-shifted c p q = ap₂ (λ (x y : ℤ). x -ℤ y) (+ℤ_comm q c) (+ℤ_comm p c) ∙ minus_shift c q p

-- ---- the place of a value
pub spot-shifted : (c : ℤ) (limit : Limit) (a b v : Float) → spot a b v (shifted_limit c limit) ≡ cond (eq a b) (spot a b v limit) (plus c (spot a b v limit))
unfolding spot
spot-shifted c limit a b v = rw (length-shifted c limit.0 limit.1) (go (limit.1 -ℤ limit.0) (eq a b))
  where
    go : (l : ℤ) (e : Bool)
        → cond e (Some (quot_z l (pos 2))) (along (limit.0 +ℤ c) (limit.1 +ℤ c) l (share a b v))
        ≡ cond e (cond e (Some (quot_z l (pos 2))) (along limit.0 limit.1 l (share a b v))) (plus c (cond e (Some (quot_z l (pos 2))) (along limit.0 limit.1 l (share a b v))))
    go l true = refl
    go l false = along-shifted c limit.0 limit.1 (share a b v) l

-- ---- on a whole axis
abbrev Near : ℤ → Type 0
Near z = whole_admitted z ≡ true

-- floats of admitted ends are equal where the ends are
ends-equal : (a b : ℤ) → Near a → Near b → eq (of_int binary64 a) (of_int binary64 b) ≡ same a b
ends-equal a b ha hb =
    let far : (z : ℤ) → Near z → nat_abs z ≤ 2 ^ 53 = λ z h. omega (arith, leb-true (nat_abs z) 1_000_000_000 h) in
    go (same a b) refl (eq (of_int binary64 a) (of_int binary64 b)) refl (far a ha) (far b hb)
  where
    go : (s : Bool) → same a b ≡ s → (e : Bool) → eq (of_int binary64 a) (of_int binary64 b) ≡ e → nat_abs a ≤ 2 ^ 53 → nat_abs b ≤ 2 ^ 53 → e ≡ s
    go true s true e fa fb = refl
    go true s false e fa fb = absurd (differ a b fa e (same_is a b s))
    go false s true e fa fb = sym (same_yes a b (same_int a b fa fb e)) ∙ s
    go false s false e fa fb = refl

answer-shifted : (c : ℤ) (e : Bool) (w : Option ℤ) → spot_answer (cond e w (plus c w)) ≡ and_then (spot_answer w) (λ x. given (cond e x (x +ℤ c)))
answer-shifted c true (Some n) = refl
answer-shifted c true None = refl
answer-shifted c false (Some n) = ap given (+ℤ_comm c n)
answer-shifted c false None = refl

-- with admitted limits before and after, a value has its place or is refused as before
pub place-shifted : (c : ℤ) (limit : Limit) (a b v : ℤ) → limit_admitted limit ≡ true → limit_admitted (shifted_limit c limit) ≡ true
    → whole_place a b v (shifted_limit c limit) ≡ and_then (whole_place a b v limit) (λ x. given (shifted_place c a b x))
unfolding whole_place
place-shifted c limit a b v h h' = rw (h, h') (go (whole_admitted a) refl (whole_admitted b) refl (whole_admitted v))
  where
    go : (x : Bool) → whole_admitted a ≡ x → (y : Bool) → whole_admitted b ≡ y → (z : Bool)
        → cond (not (x && y && z)) (refused 1) (spot_answer (whole_spot a b v (shifted_limit c limit)))
        ≡ and_then (cond (not (x && y && z)) (refused 1) (spot_answer (whole_spot a b v limit))) (λ x. given (shifted_place c a b x))
    go true e true g true =
        ap spot_answer (spot-shifted c limit (of_int binary64 a) (of_int binary64 b) (of_int binary64 v))
        ∙ ap (λ (t : Bool). spot_answer (cond t (whole_spot a b v limit) (plus c (whole_spot a b v limit)))) (ends-equal a b e g)
        ∙ answer-shifted c (same a b) (whole_spot a b v limit)
    go true e true g false = refl
    go true e false g z = refl
    go false e y g z = refl
