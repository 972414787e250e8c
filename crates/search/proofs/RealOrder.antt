-- What the order of floats rests on: fractions that are equal. Assumes nothing.
use mathlib.Core.Path.{◌≡◌, refl, sym}
use mathlib.Core.Bool.{Bool, true, false, true≢false, ◌&&◌, ◌||◌, beq}
use Prim.Native.Nat.{ℕ}
use native.Mathlib.Omega.{arith}
use borrow.Author.Tests.{eqb-true}
use lib.Dec.{eqb}
use lib.Ieee.{level}
pub use Rattle.search.specs.Kinds.{real-order}

pub never : {A : Type 0} → ◌≡◌ {A = Bool} false true → A
never e = absurd (true≢false (sym e))

-- the signs of equal fractions are equal, or both are zero
pub data Level (s t : Bool) (x y : ℕ) : Type 0 where
  signs : s ≡ t → x ≡ y → Level s t x y
  zeros : x ≡ 0 → y ≡ 0 → Level s t x y

pub levelled : (s t : Bool) (x y : ℕ) → level s x t y ≡ true → Level s t x y
levelled s t x y h = go (eqb x y) refl h
  where
    side : (s t : Bool) → x ≡ y → (beq s t || eqb x 0) ≡ true → Level s t x y
    side true true e k = signs refl e
    side true false e k = let z : x ≡ 0 = eqb-true x 0 k in zeros z (omega (arith, z, e))
    side false true e k = let z : x ≡ 0 = eqb-true x 0 k in zeros z (omega (arith, z, e))
    side false false e k = signs refl e

    go : (w : Bool) → eqb x y ≡ w → (w && (beq s t || eqb x 0)) ≡ true → Level s t x y
    go true e k = side s t (eqb-true x y e) k
    go false e k = never k
