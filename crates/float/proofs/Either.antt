-- Which text it is of a number that is neither zero nor too small, by what the code compares. Assumes nothing.
use mathlib.Core.Path.{◌≡◌, refl, ap, ◌∙◌}
use mathlib.Core.Bool.{true, false, ◌||◌}
use mathlib.Core.List.{List}
use Prim.Native.Nat.{ℕ, ◌+◌, ◌^◌, ◌≤◌}
use native.Mathlib.Omega.{arith}
use mir.Syntax.{w32}
use mir.Val.{to_z, of_z}
use lib.Dec.{ltb}
use lib.IntN.{pos, nat_abs, ◌-ℤ◌}
use lib.ListN.{length}
use lib.Ieee.{Float, binary64, div, eq, fits}
use lib.Ieee.Bits.{is_true}
use lib.Ieee.Fits.{div-fits}
use Rattle.std.specs.Float.{float_with_sign}
use Rattle.rounding.specs.Within.{AtMost}
use Rattle.decimal.specs.Print.{decimal}
use Rattle.float.specs.declared.Shortened.{Shortened}
use Rattle.float.specs.Shorten.{shorten, tolerance}
use Rattle.float.specs.Text.{size_of, shown_of, label_of, plotters_text}
use Rattle.float.specs.Scientific.{zero_float, table_index, scale_of, exponent_at, exponent_of, mantissa_of, prefers}
use Rattle.float.specs.Calls.{printable, too_small}
use Rattle.float.specs.Steps.{Taken, parts_of, unsigned_parts, bytes_of}
use Rattle.float.proofs.Bounds.{wider, printable_at_most}
use Rattle.float.proofs.Exponents.{exponent_is}
use Rattle.float.proofs.Scales.{mantissa_small}
use Rattle.float.proofs.Shown.{shown-bytes, unsigned_bytes}
use Rattle.float.proofs.Signs.{size_is}
use Rattle.float.proofs.Notation.{mantissa_is, prefers_is, text_length_is}

module _ (n : Float) (fit : fits binary64 n ≡ true) (has : printable n ≡ true) (h : ℕ) (l : h ≤ 10) (e : ℕ) where
  -- the plain text
  module _ (r : Shortened) (q : r ≡ shorten h n (tolerance h)) (t : Taken) (w : t ≡ parts_of r.value r.levels) where
    pub plain-bytes : bytes_of t e ≡ plotters_text n h e
    unfolding plotters_text
    plain-bytes = shown-bytes n h fit (printable_at_most n has) l r q t w e

    pub label-bytes : bytes_of (unsigned_parts t) e ≡ label_of n h e
    unfolding label_of plotters_text
    label-bytes = unsigned_bytes n h fit (printable_at_most n has) l r q t w e

-- the power, and whether its exponent is short
module _ (n a : Float) (s : a ≡ float_with_sign false n) (k : ℕ) (i : k ≡ table_index a) (few : k ≤ 616) where
  place_is : k ≡ table_index (size_of n)
  place_is = i ∙ ap table_index (s ∙ size_is n)

  pub exponent_told : to_z w32 (of_z w32 (to_z w32 k -ℤ pos 307)) ≡ exponent_of n
  exponent_told = exponent_is k few ∙ ap exponent_at place_is

  pub short_is : (x : ℕ) → x ≡ nat_abs (to_z w32 (of_z w32 (to_z w32 k -ℤ pos 307))) → ltb x 3 ≡ ltb (nat_abs (exponent_of n)) 3
  short_is x q = ap (λ (y : ℕ). ltb y 3) (q ∙ ap nat_abs exponent_told)

-- the mantissa
module _ (n a p : Float) (s : a ≡ float_with_sign false n) (i : p ≡ scale_of a) (has : printable n ≡ true) (z : eq n zero_float ≡ false) (large : too_small n ≡ false) where
  value_is : p ≡ scale_of (size_of n)
  value_is = i ∙ ap scale_of (s ∙ size_is n)

  pub part-fits : fits binary64 (div binary64 n p) ≡ true
  part-fits = is_true (fits binary64 (div binary64 n p)) (div-fits binary64 n p)

  pub part-most : AtMost (2 ^ 53) (div binary64 n p)
  part-most = rw value_is (wider 16 (2 ^ 53) (div binary64 n (scale_of (size_of n))) (omega arith) (mantissa_small n has z large))

  module _ (e : ℕ) (m : Shortened) (q : m ≡ shorten 5 (div binary64 n p) (tolerance 5)) (u : Taken) (w : u ≡ parts_of m.value m.levels) where
    pub long-bytes : bytes_of u e ≡ shown_of (mantissa_of n) e
    long-bytes =
        shown-bytes (div binary64 n p) 5 part-fits part-most (omega arith) m q u w e
        ∙ ap (λ (y : Float). shown_of (shorten 5 (div binary64 n y) (tolerance 5)) e) value_is
        ∙ ap (λ (r : Shortened). shown_of r e) (mantissa_is n)

-- the choice
pub preferred_is : (n : Float) (h e : ℕ) (i j : ℕ) (b d : List ℕ) (v : Float) → i ≡ length b → b ≡ shown_of (mantissa_of n) e → d ≡ decimal (exponent_of n) → j ≡ length (plotters_text n h e)
    → v ≡ (shorten h n (tolerance h)).value → (ltb (i + 1 + length d + 1) j || eq v zero_float) ≡ prefers n h e
preferred_is n h e i j b d v p q r s t = prefers_is n h e (i + 1 + length d) j v (text_length_is n h e i (length d) b d p refl q r) s t
