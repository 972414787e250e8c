-- The search for the first step that serves, a step at a time. Assumes nothing.
use Rattle.std.specs.Prelude.{Option, Some, None, MatchOption, SomeIff}
use mathlib.Core.Path.{◌≡◌, refl, sym, ◌∙◌}
use mathlib.Core.Bool.{Bool, true, false}
use Prim.Native.Nat.{ℕ, zero, suc, ◌+◌, ◌-◌, ◌≤◌, ◌<◌}
use native.Mathlib.Omega.{arith}
use native.Mathlib.Numerals.{add-one}
use Rattle.numeric.specs.Marks.{first_of}

module _ (p : ℕ → Bool) (k n : ℕ) where
  one_left : k < n → n - k ≡ suc (n - (k + 1))
  one_left h = omega arith

  pub first_hit : k < n → p k ≡ true → first_of p k (n - k) ≡ k
  unfolding first_of
  first_hit h e = rw (one_left h, e)

  pub first_miss : k < n → p k ≡ false → first_of p k (n - k) ≡ first_of p (k + 1) (n - (k + 1))
  unfolding first_of
  first_miss h e = rw (one_left h, e, add-one)

  pub first-none : n ≤ k → first_of p k (n - k) ≡ k
  unfolding first_of
  first-none h = let z : n - k ≡ 0 = omega arith in rw z

module _ (p : ℕ → Bool) (n : ℕ) where
  -- none of the first j passes
  skipped : (j : ℕ) → j ≤ n → ((k : ℕ) → k < j → p k ≡ false) → first_of p 0 n ≡ first_of p j (n - j)
  skipped zero h f = let e : n - 0 ≡ n = omega arith in rw e refl
  skipped (suc j) h f = let next : j + 1 ≡ suc j = omega arith in skipped j (omega (arith, h)) (λ k l. f k (omega (arith, l))) ∙ (rw next at (first_miss p j n (omega (arith, h)) (f j (omega arith))))

  pub first_found : (r : Option ℕ) → MatchOption r ((k : ℕ) → 0 ≤ k → k < n → p k ≡ false) (λ i. (0 ≤ i) × (i < n) × (p i ≡ true) × ((k : ℕ) → 0 ≤ k → k < i → p k ≡ false))
      → SomeIff r (first_of p 0 n < n) (first_of p 0 n)
  first_found None f =
      let last : first_of p 0 n ≡ n = skipped n (omega arith) (λ k l. f k (omega arith) l) ∙ first-none p n n (omega arith) in
      λ h. omega (arith, h, last)
  first_found (Some i) f =
      let found : first_of p 0 n ≡ i = skipped i (omega (arith, f.1)) (λ k l. f.3 k (omega arith) l) ∙ first_hit p i n f.1 f.2 in
      (omega (arith, found, f.1), sym found)
