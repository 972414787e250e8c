-- A number that is shortened and taken apart: how large its parts are, and what is written of them. Assumes nothing.
use mathlib.Core.Path.{◌≡◌, ap, ◌∙◌}
use mathlib.Core.Bool.{true}
use Prim.Native.Nat.{ℕ, ◌^◌, ◌≤◌}
use native.Mathlib.Omega.{arith}
use lib.Ieee.{Float, binary64, fits}
use Rattle.rounding.specs.Within.{AtMost}
use Rattle.float.specs.declared.Shortened.{Shortened}
use Rattle.float.specs.Shorten.{shorten, tolerance}
use Rattle.float.specs.Text.{shown_of, zero_unsigned}
use Rattle.float.specs.Steps.{Taken, parts_of, unsigned_parts, bytes_of}
use Rattle.float.proofs.Cases.{shorten-few}
use Rattle.float.proofs.Bounds.{near, stays_near}
use Rattle.float.proofs.Printed.{bytes-shown}
use Rattle.float.proofs.Zeros.{bytes_unsigned}

module _ (n : Float) (h : ℕ) (fit : fits binary64 n ≡ true) (most : AtMost (2 ^ 53) n) (l : h ≤ 10) (r : Shortened) (q : r ≡ shorten h n (tolerance h)) where
  pub levels_few : r.levels ≤ 10
  levels_few = let w : r.levels ≤ h = rw q (shorten-few h n (tolerance h)) in omega arith

  pub value-near : AtMost near r.value
  value-near = rw q (stays_near h n (tolerance h) fit most)

  module _ (t : Taken) (w : t ≡ parts_of r.value r.levels) where
    pub shown-bytes : (e : ℕ) → bytes_of t e ≡ shown_of (shorten h n (tolerance h)) e
    shown-bytes e = ap (λ (u : Taken). bytes_of u e) w ∙ bytes-shown r.value r.levels e levels_few ∙ ap (λ (u : Shortened). shown_of u e) q

    pub unsigned_bytes : (e : ℕ) → bytes_of (unsigned_parts t) e ≡ zero_unsigned (shown_of (shorten h n (tolerance h)) e)
    unsigned_bytes e = ap (λ (u : Taken). bytes_of (unsigned_parts u) e) w ∙ bytes_unsigned r.value r.levels e levels_few value-near ∙ ap (λ (u : Shortened). zero_unsigned (shown_of u e)) q
