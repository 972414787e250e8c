-- Whole numbers that lie between two others. Assumes nothing.
use borrow.Author.Tests.{leb-true, le-leb}
use Prim.Native.Nat.{ℕ}
use lib.Dec.{leb}
use lib.IntN.{nat_abs}
use lib.Signed.{lt_z}
use Rattle.ranged1d.proofs.Whole.{less_not_above, between-far}
use Rattle.search.proofs.Orders.{Between}
pub use Rattle.search.specs.Kinds.{whole-order}

-- what lies between two that are admitted is admitted
pub whole-between : (k : ℕ) → Between lt_z (λ z. leb (nat_abs z) k)
whole-between k x y z p q f g = le-leb (nat_abs y) k (between-far k x y z (less_not_above x y p) (less_not_above y z q) (leb-true (nat_abs x) k f) (leb-true (nat_abs z) k g))
