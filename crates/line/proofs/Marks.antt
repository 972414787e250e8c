-- The line of a mark: it has at most 24 bytes, and never more than the lent ones. Assumes nothing.
use mathlib.Core.Path.{◌≡◌, refl, ap}
use mathlib.Core.Bool.{Bool, true, false, cond}
use mathlib.Core.List.{List, [], ◌∷◌, ◌++◌}
use Prim.Native.Nat.{ℕ, ◌≤◌}
use native.Mathlib.Omega.{arith}
use borrow.Author.Tests.{ltb-false}
use lib.Dec.{ltb}
use lib.IntN.{ℤ}
use lib.ListN.{length, drop, length-append}
use Rattle.decimal.specs.Print.{decimal}
use Rattle.decimal.proofs.Digits.{decimal-most}
use Rattle.line.specs.Mark.{mark_line, put_mark}

mark-most : (v x : ℤ) → length (mark_line v x) ≤ 24
unfolding mark_line
mark-most v x =
    omega (arith, length-append (decimal v ++ (32 ∷ [])) (decimal x ++ (10 ∷ [])), length-append (decimal v) (32 ∷ []), length-append (decimal x) (10 ∷ []), decimal-most v, decimal-most x)

pub mark-fits : (v x : ℤ) (old new : List ℕ) (n : ℕ) → (n, new) ≡ put_mark v x old → (n ≤ 24) × (n ≤ length old)
unfolding put_mark
mark-fits v x old new n e = go (ltb (length old) 24) refl (ap (λ (p : ℕ × List ℕ). p.0) e)
  where
    go : (t : Bool) → ltb (length old) 24 ≡ t → n ≡ (cond {A = ℕ × List ℕ} t (0, old) (length (mark_line v x), mark_line v x ++ drop (length (mark_line v x)) old)).0 → (n ≤ 24) × (n ≤ length old)
    go true q f = (omega arith, omega arith)
    go false q f = let l = ltb-false (length old) 24 q in (omega (arith, mark-most v x), omega (arith, mark-most v x))
