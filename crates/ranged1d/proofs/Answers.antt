-- Answers that are equal: of what kind they are, and what they hold; and what a list leaves in lent memory. Assumes nothing.
use mathlib.Core.Path.{◌≡◌, refl, ap}
use mathlib.Core.Bool.{Bool, true, false, cond}
use mathlib.Core.List.{List, ◌++◌}
use Prim.Native.Nat.{ℕ, ◌≤◌, ◌<◌}
use native.Mathlib.Omega.{arith}
use borrow.Author.Tests.{lt-ltb, le-ltb}
use lib.ListN.{length, drop}
use Rattle.ranged1d.specs.Answer.{Answer, given, none, refused, list_written}

pub given_is : {A : Type 0} {x y : A} → ◌≡◌ {A = Answer A} (given x) (given y) → x ≡ y
given_is e = cc

pub one-refusal : {A B : Type 0} {m n : ℕ} → ◌≡◌ {A = Answer A} (refused m) (refused n) → ◌≡◌ {A = Answer B} (refused m) (refused n)
one-refusal {m = m} {n = n} e = let s : m ≡ n = cc in ap refused s

pub not-both : {A : Type 0} {x : A} {n : ℕ} → ◌≡◌ {A = Answer A} (given x) (refused n) → ⊥
not-both e = let z : ◌≡◌ {A = ℕ} 0 1 = cc in omega (arith, z)

pub not_none : {A : Type 0} {x : A} → ◌≡◌ {A = Answer A} none (given x) → ⊥
not_none e = let z : ◌≡◌ {A = ℕ} 0 1 = cc in omega (arith, z)

-- what is given by a test that may leave none
pub choice : {A : Type 0} (t : Bool) (x y : A) → cond t (given x) none ≡ given y → (t ≡ true) × (x ≡ y)
choice true x y e = (refl, given_is e)
choice false x y e = absurd (not_none e)

-- ---- a list that is put into lent memory
module _ {A : Type 0} (l old : List A) (n : ℕ) (size : length l ≡ n) where
  pub too_short : length old < n → ◌≡◌ {A = Answer ℕ × List A} (refused 13, old) (list_written l old)
  too_short h = rw (size, lt-ltb (length old) n h) refl

  pub all-written : n ≤ length old → (given n, l ++ drop n old) ≡ list_written l old
  all-written h = rw (size, le-ltb (length old) n h, size) refl
