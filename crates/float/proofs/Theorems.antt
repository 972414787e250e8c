-- What scientific labels promise beyond their rule: the counter of the mantissa decides nothing, the exponent reads back, and a label that is not
-- scientific is `print`'s. Assumes nothing.
use mathlib.Core.Path.{◌≡◌, refl, sym, ap, ◌∙◌}
use mathlib.Core.Bool.{Bool, true, false}
use mathlib.Core.Logic.{◌⊎◌, inl, inr}
use Prim.Native.Nat.{ℕ, suc, ◌+◌, ◌-◌, ◌≤◌}
use native.Mathlib.Omega.{arith}
use lib.Dec.{ltb}
use lib.IntN.{nat_abs}
use lib.Ieee.{Float, eq}
use borrow.Author.Tests.{le-leb, ltb-true, ltb-false}
use Rattle.ranged1d.specs.Answer.{given}
use Rattle.ranged1d.specs.Numbers.{is_i32}
use Rattle.decimal.specs.Print.{decimal}
use Rattle.decimal.specs.Read.{read_i32}
use Rattle.decimal.proofs.Reader.{reads_i32}
use Rattle.float.specs.Shorten.{shorten}
use Rattle.float.specs.Text.{size_of, label_of}
use Rattle.float.specs.Scientific.{zero_float, tiny, table_index, exponent_at, exponent_of, scientific_text, prefers, scientific_of}
use Rattle.float.specs.Calls.{printable, too_small}
use Rattle.float.proofs.Enough.{enough}
use Rattle.float.proofs.Exponents.{exponent_below, exponent_above}
use Rattle.float.proofs.Scales.{decade_most, place-near, tolerance-five}
use Rattle.float.proofs.Notation.{text-short, text_long, text-kept}

-- five levels are enough for the tolerance 0.00001, as the source's recursion has no counter
pub five_enough : (j : ℕ) (x : Float) → shorten (5 + j) x tiny ≡ shorten 5 x tiny
five_enough j x =
    ap (shorten (5 + j) x) (sym tolerance-five) ∙ enough 5 j x (omega arith) ∙ ap (shorten 5 x) tolerance-five

-- the exponent's text is read back as the exponent
exponent_i32 : (k : ℕ) → k ≤ 616 → is_i32 (exponent_at k) ≡ true
exponent_i32 k h = go (ltb k 307) refl
  where
    go : (b : Bool) → ltb k 307 ≡ b → is_i32 (exponent_at k) ≡ true
    go true e = ap is_i32 (exponent_below k (ltb-true k 307 e)) ∙ rw (le-leb (307 - suc k) 2147483647 (omega arith))
    go false e = ap is_i32 (exponent_above k (ltb-false k 307 e)) ∙ rw (le-leb (k - 307) 2147483647 (omega arith))

pub exponent_reads : (n : Float) → printable n ≡ true → eq n zero_float ≡ false → too_small n ≡ false → read_i32 (decimal (exponent_of n)) ≡ given (exponent_of n)
exponent_reads n a z t = reads_i32 (exponent_of n) (exponent_i32 (table_index (size_of n)) (omega (arith, decade_most n a z t, (place-near (size_of n)).1)))

-- the label of a number that is not zero is the scientific text or `print`'s label
pub one_of_two : (n : Float) (h e : ℕ) → eq n zero_float ≡ false → (scientific_of n h e ≡ scientific_text n e) ⊎ (scientific_of n h e ≡ label_of n h e)
one_of_two n h e z = go (ltb (nat_abs (exponent_of n)) 3) refl (prefers n h e) refl
  where
    go : (s : Bool) → ltb (nat_abs (exponent_of n)) 3 ≡ s → (p : Bool) → prefers n h e ≡ p → (scientific_of n h e ≡ scientific_text n e) ⊎ (scientific_of n h e ≡ label_of n h e)
    go true s p q = inr (text-short n h e z s)
    go false s true q = inl (text_long n h e z s q)
    go false s false q = inr (text-kept n h e z s q)
