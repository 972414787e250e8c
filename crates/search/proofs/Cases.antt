-- The rules of a settled search, case by case. Assumes nothing.
use mathlib.Core.Path.{◌≡◌, refl}
use mathlib.Core.Bool.{Bool, true, false, ◌&&◌, and-false}
use Prim.Native.Nat.{ℕ, ◌<◌}
use native.Mathlib.Omega.{arith}
use borrow.Author.Tests.{lt-ltb}
use lib.Dec.{ltb}
use Rattle.ranged1d.specs.Answer.{Answer, given, none, refused}
use Rattle.search.specs.Search.{Numbers}
use Rattle.search.specs.Settled.{closer, unequal, settled, for_nan, settled_nan}
use Rattle.search.specs.declared.RoundingMethod.TheVariants.{Exact, Ceil, Floor, Round}
use Rattle.search.specs.declared.RoundingMethod.{RoundingMethod}

-- a NaN: on an empty list, as a search that finds nothing and has nothing behind it; there by the nearest, by another search; on another list by an
-- exact search, by another
pub nan_empty : (m : RoundingMethod) (n : ℕ) → n ≡ 0 → unequal m true 0 0 false ≡ settled_nan m n
unfolding settled_nan
nan_empty m n e = rw e (go m)
  where
    go : (m : RoundingMethod) → unequal m true 0 0 false ≡ for_nan m
    go Exact = refl
    go Ceil = refl
    go Floor = refl
    go Round = refl

pub nan_nearest : {m : RoundingMethod} (n : ℕ) → n ≡ 0 → m ≡ Round → ◌≡◌ {A = Answer ℕ} (given 0) (settled_nan m n)
unfolding settled_nan
nan_nearest n z e = rw (z, e) refl

pub nan_none : (m : RoundingMethod) (n : ℕ) → n ≡ 0 → (m ≡ Round → ⊥) → ◌≡◌ {A = Answer ℕ} none (settled_nan m n)
unfolding settled_nan
nan_none Exact n z f = rw z refl
nan_none Ceil n z f = rw z refl
nan_none Floor n z f = rw z refl
nan_none Round n z f = absurd (f refl)

pub nan_exact : {m : RoundingMethod} (n : ℕ) → m ≡ Exact → ◌≡◌ {A = Answer ℕ} none (settled_nan m n)
unfolding settled_nan
nan_exact n e = rw (e, and-false (ltb 0 n)) refl

pub nan_refused : (m : RoundingMethod) (n : ℕ) → (n ≡ 0 → ⊥) → (m ≡ Exact → ⊥) → ◌≡◌ {A = Answer ℕ} (refused 9) (settled_nan m n)
unfolding settled_nan
nan_refused Exact n h f = absurd (f refl)
nan_refused Ceil n h f = let l : 0 < n = omega (arith, h) in rw (lt-ltb 0 n l) refl
nan_refused Floor n h f = let l : 0 < n = omega (arith, h) in rw (lt-ltb 0 n l) refl
nan_refused Round n h f = let l : 0 < n = omega (arith, h) in rw (lt-ltb 0 n l) refl

module _ {A : Type 0} (num : Numbers A) (m : RoundingMethod) (r : Bool) (n i : ℕ) (x t y : A) where
  pub settled_miss : (c : Bool) → (ltb i n && num.equal y t) ≡ false → c ≡ closer num r x t y → unequal m r n i c ≡ settled num m r n i x t y
  unfolding settled
  settled_miss c h e = rw (h, e) refl
