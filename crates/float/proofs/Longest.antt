-- 29 bytes are enough for every scientific label. The plain text of 38 bytes is never chosen: a long whole part has a short scientific text. Assumes nothing.
use mathlib.Core.Path.{◌≡◌, refl}
use mathlib.Core.Bool.{Bool, true, false}
use mathlib.Core.List.{◌∷◌}
use Prim.Native.Nat.{ℕ, suc, ◌+◌, ◌^◌, ◌≤◌, ◌<◌}
use native.Mathlib.Omega.{arith}
use lib.Dec.{ltb}
use lib.IntN.{nat_abs}
use lib.ListN.{length, length-append}
use lib.Ieee.{Float, binary64, round, div, eq, fits}
use lib.Ieee.Bits.{is_true}
use lib.Ieee.Fits.{div-fits}
use lib.Ieee.Exact.{HasValue}
use lib.Ieee.Back.{round_whole}
use borrow.Author.Tests.{ltb-true, ltb-false}
use Rattle.ranged1d.proofs.Bools.{both_false}
use Rattle.rounding.specs.Within.{AtMost}
use Rattle.decades.specs.Decade.{decade_index}
use Rattle.decimal.specs.Print.{decimal}
use Rattle.float.specs.Shorten.{shorten, tolerance}
use Rattle.float.specs.Text.{size_of, shown_of, plotters_text, label_of}
use Rattle.float.specs.Scientific.{zero_float, tiny, letter, table_index, scale_of, exponent_of, mantissa_of, scientific_text, prefers, scientific_of}
use Rattle.float.specs.Calls.{printable, too_small}
use Rattle.float.proofs.Cases.{shorten-few}
use Rattle.float.proofs.Bounds.{stays}
use Rattle.float.proofs.Printed.{shown-most}
use Rattle.float.proofs.Zeros.{unsigned_shorter}
use Rattle.float.proofs.Exponents.{exponent_four, exponent_two, short_true, short_false}
use Rattle.float.proofs.Scales.{mantissa_small, decade_most, under_thousand, under_one, place-near}
use Rattle.float.proofs.Notation.{text_zero, text-short, text_long, text-kept}

module _ (n : Float) (h e : ℕ) (fit : fits binary64 n ≡ true) (a : printable n ≡ true) (z : eq n zero_float ≡ false) (t : too_small n ≡ false) (l : h ≤ 10) (m : e ≤ 20) where
  abbrev place : ℕ
  place = table_index (size_of n)

  place-most : place ≤ 323
  place-most = omega (arith, decade_most n a z t, (place-near (size_of n)).1)

  -- plotters' text of a number of at most C
  plain-most : (C d : ℕ) → HasValue (round binary64 false (C + 2) 1) false (C + 2) 1 → C + 3 < 10 ^ suc d → AtMost C n → length (plotters_text n h e) ≤ 23 + d
  unfolding plotters_text
  plain-most C d v c w =
      let f = shorten-few h n (tolerance h) in
      shown-most (C + 2) d (shorten h n (tolerance h)).value (shorten h n (tolerance h)).levels e (stays C (C + 2) v (omega arith) h n (tolerance h) fit w) (omega arith) (omega arith) m

  label_most : (C d : ℕ) → HasValue (round binary64 false (C + 2) 1) false (C + 2) 1 → C + 3 < 10 ^ suc d → AtMost C n → length (label_of n h e) ≤ 23 + d
  unfolding label_of
  label_most C d v c w = omega (arith, unsigned_shorter (plotters_text n h e), plain-most C d v c w)

  -- the scientific text
  abbrev part : Float
  part = div binary64 n (scale_of (size_of n))

  text-most : length (scientific_text n e) ≤ 25 + length (decimal (exponent_of n))
  unfolding scientific_text mantissa_of
  text-most =
      let f = shorten-few 5 part tiny in
      let s : length (shown_of (shorten 5 part tiny) e) ≤ 24 = shown-most 18 1 (shorten 5 part tiny).value (shorten 5 part tiny).levels e (stays 16 18 (round_whole binary64 false 18 (omega arith)) (omega arith) 5 part tiny (is_true (fits binary64 part) (div-fits binary64 n (scale_of (size_of n)))) (mantissa_small n a z t)) (omega arith) (omega arith) m in
      omega (arith, length-append (shown_of (shorten 5 part tiny) e) (letter ∷ decimal (exponent_of n)))

  -- the plain text where it is kept though the exponent is 3 or more in size
  kept-most : ltb (nat_abs (exponent_of n)) 3 ≡ false → prefers n h e ≡ false → length (label_of n h e) ≤ 29
  unfolding prefers label_of
  kept-most s p = go (ltb 304 place) refl
    where
      go : (b : Bool) → ltb 304 place ≡ b → length (label_of n h e) ≤ 29
      go false q =
          let low : decade_index (size_of n) < 307 = omega (arith, ltb-false 304 place q, (place-near (size_of n)).0) in
          omega (arith, label_most 1 0 (round_whole binary64 false 3 (omega arith)) (omega arith) (under_one n a z t low))
      go true q =
          let k = short_false place s (ltb-true 304 place q) in
          let two : length (decimal (exponent_of n)) ≤ 2 = exponent_two place (omega arith) place-most in
          let c = ltb-false (length (scientific_text n e) + 1) (length (plotters_text n h e)) (both_false (ltb (length (scientific_text n e) + 1) (length (plotters_text n h e))) _ p).0 in
          omega (arith, text-most, unsigned_shorter (plotters_text n h e))

  some-most : length (scientific_of n h e) ≤ 29
  some-most = go (ltb (nat_abs (exponent_of n)) 3) refl (prefers n h e) refl
    where
      go : (s : Bool) → ltb (nat_abs (exponent_of n)) 3 ≡ s → (p : Bool) → prefers n h e ≡ p → length (scientific_of n h e) ≤ 29
      go true s p q =
          let low : decade_index (size_of n) < 310 = omega (arith, short_true place s, (place-near (size_of n)).0) in
          rw (text-short n h e z s) (omega (arith, label_most 1000 3 (round_whole binary64 false 1002 (omega arith)) (omega arith) (under_thousand n a z t low)))
      go false s true q = rw (text_long n h e z s q) (omega (arith, text-most, exponent_four place (omega (arith, place-most))))
      go false s false q = rw (text-kept n h e z s q) (kept-most s q)

-- 29 bytes are enough
pub scientific_short : (n : Float) (h e : ℕ) → fits binary64 n ≡ true → printable n ≡ true → too_small n ≡ false → h ≤ 10 → e ≤ 20 → length (scientific_of n h e) ≤ 29
scientific_short n h e fit a t l m = go (eq n zero_float) refl
  where
    go : (b : Bool) → eq n zero_float ≡ b → length (scientific_of n h e) ≤ 29
    go true z = rw (text_zero n h e z) (omega arith)
    go false z = some-most n h e fit a z t l m
