-- Refusal 3 is met exactly where 01's table has it. Assumes nothing.
use mathlib.Core.Path.{◌≡◌, refl, sym, ap, ◌∙◌, subst}
use mathlib.Core.Logic.{◌⊎◌, inl, inr, ◌↔◌}
use mathlib.Core.Bool.{Bool, true, false, cond, not, ◌&&◌}
use mathlib.Core.List.{List, [], ◌∷◌}
use Prim.Native.Nat.{ℕ, ◌+◌, ◌-◌, ◌*◌, ◌≤◌, ◌<◌}
use native.Mathlib.Nat.{lt-div-mul-add, mul-le-mul_right, zero-mul, one-mul}
use native.Mathlib.Decide.{dec_le}
use native.Mathlib.Omega.{arith}
use borrow.Author.Tests.{leb-true, le-leb}
use lib.Dec.{T, ltb}
use lib.IntN.{ℤ, pos, nat_abs, ◌-ℤ◌, +ℤ_invr}
use lib.ListN.{length}
use lib.Signed.{le_z}
use Rattle.ranged1d.specs.Answer.{Answer, given, none, refused, ◌when◌, lowest}
use Rattle.ranged1d.specs.Admitted.{whole_admitted}
use Rattle.ranged1d.proofs.Bools.{cond_same}
use Rattle.ranged1d.proofs.Whole.{minus-far, some_size, no_difference}
use Rattle.numeric.specs.Marks.{low, high, distance, step_at, ceil_div, serves, chosen, no_step_for, no_step, step_of, marks}
use Rattle.numeric.specs.Calls.{whole_key_points}
use Rattle.numeric.proofs.Steps.{step_pos, step_top}
use Rattle.numeric.proofs.Plans.{one-near}
use Rattle.numeric.proofs.Most.{chosen-serves, chosen-first, serves-few}

-- 01 "Why a call stops", 3: m = 0 and a ≠ b, or m = 1 and a distance above 1,000,000,000
abbrev pub NoneServes : ℤ → ℤ → ℕ → Type 0
NoneServes a b m = ((m ≡ 0) × (a ≡ b → ⊥)) ⊎ ((m ≡ 1) × (1_000_000_000 < distance (low a b) (high a b)))

-- a step that serves is not passed over
reached : (d m j : ℕ) → j < 28 → serves d m j ≡ true → chosen d m < 28
reached d m j h e = go (dec_le 28 (chosen d m))
  where
    go : Dec (28 ≤ chosen d m) → chosen d m < 28
    go (yes l) = absurd (subst T (sym (sym (chosen-first d m j (omega arith)) ∙ e)) tt)
    go (no f) = omega arith

module _ (d m : ℕ) where
  -- of the last step, 1,000,000,000
  last-serves : ceil_div d 1000000000 ≤ m → chosen d m < 28
  unfolding step_at
  last-serves h = reached d m 27 (omega arith) (le-leb (ceil_div d 1000000000) m h)

  -- of any step that was chosen
  served_bound : chosen d m < 28 → (s : ℕ) × (s ≤ 1000000000) × (d + (s - 1) < m * s + s) × (0 < s)
  served_bound h =
      let k = chosen d m in
      let s = step_at k in
      let few = mul-le-mul_right s (serves-few d m k (chosen-serves d m h)) in
      (s, step_top k h, omega (arith, few, lt-div-mul-add {a = d + (s - 1)} (step_pos k h)), step_pos k h)

  pub none_served : d ≤ 2000000000 → 28 ≤ chosen d m → ((m ≡ 0) × (0 < d)) ⊎ ((m ≡ 1) × (1000000000 < d))
  none_served hd h = go (dec_le 2 m) (dec_le 1 m)
    where
      go : Dec (2 ≤ m) → Dec (1 ≤ m) → ((m ≡ 0) × (0 < d)) ⊎ ((m ≡ 1) × (1000000000 < d))
      go (yes l) o = absurd (omega (arith, last-serves (omega arith)))
      go (no f) (yes l) = inr (omega arith, far (dec_le d 1000000000))
        where
          far : Dec (d ≤ 1000000000) → 1000000000 < d
          far (yes u) = absurd (omega (arith, last-serves (omega arith)))
          far (no u) = omega arith
      go (no f) (no g) = inl (omega arith, apart (dec_le 1 d))
        where
          apart : Dec (1 ≤ d) → 0 < d
          apart (yes u) = u
          apart (no u) = absurd (omega (arith, last-serves (omega arith)))

  pub served_none : ((m ≡ 0) × (0 < d)) ⊎ ((m ≡ 1) × (1000000000 < d)) → 28 ≤ chosen d m
  served_none w = go (dec_le 28 (chosen d m)) w
    where
      bound : (s : ℕ) × (s ≤ 1000000000) × (d + (s - 1) < m * s + s) × (0 < s) → ((m ≡ 0) × (0 < d)) ⊎ ((m ≡ 1) × (1000000000 < d)) → ⊥
      bound b (inl z) = omega (arith, ap (λ (n : ℕ). n * b.0) z.0, zero-mul b.0, b.1, b.2, b.3, z.1)
      bound b (inr z) = omega (arith, ap (λ (n : ℕ). n * b.0) z.0, one-mul b.0, b.1, b.2, b.3, z.1)

      go : Dec (28 ≤ chosen d m) → ((m ≡ 0) × (0 < d)) ⊎ ((m ≡ 1) × (1000000000 < d)) → 28 ≤ chosen d m
      go (yes l) w = l
      go (no f) w = absurd (bound (served_bound (omega arith)) w)

-- equal ends have no distance between them, and others have one
zero_apart : (a : ℤ) → distance (low a a) (high a a) ≡ 0
zero_apart a = rw (cond_same (le_z a a) {x = a} {y = a} refl) (ap nat_abs (+ℤ_invr a))

pub differ : (a b : ℤ) → (a ≡ b → ⊥) → 0 < distance (low a b) (high a b)
differ a b f = go (le_z a b)
  where
    go : (t : Bool) → 0 < distance (cond t a b) (cond t b a)
    go true = some_size (b -ℤ a) (λ e. f (no_difference a b e))
    go false = some_size (a -ℤ b) (λ e. f (sym (no_difference b a e)))

module _ (a b : ℤ) (m : ℕ) where
  no-step→ : nat_abs a ≤ 1000000000 → nat_abs b ≤ 1000000000 → no_step a b m ≡ true → NoneServes a b m
  unfolding no_step_for
  no-step→ ha hb e = go (none_served (distance (low a b) (high a b)) m near (leb-true _ _ e))
    where
      near : distance (low a b) (high a b) ≤ 2000000000
      near = omega (arith, minus-far (high a b) (low a b), one-near a b ha hb (le_z a b), one-near b a hb ha (le_z a b))

      go : ((m ≡ 0) × (0 < distance (low a b) (high a b))) ⊎ ((m ≡ 1) × (1000000000 < distance (low a b) (high a b))) → NoneServes a b m
      go (inl z) = inl (z.0, λ q. omega (arith, z.1, ap (λ (x : ℤ). distance (low a x) (high a x)) (sym q), zero_apart a))
      go (inr z) = inr z

  no-step← : NoneServes a b m → no_step a b m ≡ true
  unfolding no_step_for
  no-step← w = le-leb 28 _ (served_none (distance (low a b) (high a b)) m (go w))
    where
      go : NoneServes a b m → ((m ≡ 0) × (0 < distance (low a b) (high a b))) ⊎ ((m ≡ 1) × (1000000000 < distance (low a b) (high a b)))
      go (inl z) = inl (z.0, differ a b z.1)
      go (inr z) = inr z

  number_in : Answer (ℤ × ℕ) → ℕ
  number_in (given x) = 0
  number_in none = 0
  number_in (refused n) = n

  pub refused_3_exactly : (old : List ℤ) → ((whole_key_points a b m old).0 ≡ refused 3) ↔ ((whole_admitted a ≡ true) × (whole_admitted b ≡ true) × NoneServes a b m)
  unfolding whole_key_points number_in
  refused_3_exactly old = (
    λ e. there (whole_admitted a) refl (whole_admitted b) refl (no_step a b m) refl (ltb (length old) (length (marks a b m))) (ap number_in e),
    λ w. rw (w.0, w.1, no-step← w.2),
  )
    where
      there : (ta : Bool) → whole_admitted a ≡ ta → (tb : Bool) → whole_admitted b ≡ tb → (u : Bool) → no_step a b m ≡ u → (v : Bool)
          → number_in (lowest (1 when not (ta && tb) ∷ 3 when u ∷ 13 when v ∷ []) (given (pos (step_of a b m), length (marks a b m)))) ≡ 3
          → (whole_admitted a ≡ true) × (whole_admitted b ≡ true) × NoneServes a b m
      there true ea true eb true eu v n = (ea, eb, no-step→ (leb-true _ _ ea) (leb-true _ _ eb) eu)
      there true ea true eb false eu true n = absurd (omega arith)
      there true ea true eb false eu false n = absurd (omega arith)
      there true ea false eb u eu v n = absurd (omega arith)
      there false ea tb eb u eu v n = absurd (omega arith)
