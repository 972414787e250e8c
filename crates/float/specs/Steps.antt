-- What private functions promise on the way to `label_print`, and what they ask: no part of the rule. Assumes nothing.
use Rattle.std.specs.Prelude.{Bool, false, cond, ◌&&◌, List, [], ◌∷◌, ◌++◌, ℕ, zero, suc, ◌+◌, ◌/◌, ◌%◌, max, not, eqb, leb, Float}
use Rattle.std.specs.Float.{binary64}
use Rattle.std.specs.Float.Ieee.{add, div}
use Rattle.ranged1d.specs.Answer.{Answer, given, ◌when◌, lowest}
use Rattle.decimal.specs.Print.{last_digits}
use Rattle.float.specs.declared.Shortened.{Shortened}
use Rattle.float.specs.Shorten.{ten}
use Rattle.float.specs.Calls.{printable}
use Rattle.float.specs.Text.{sign_of, whole_part, decimals_of, fills_up, filled_up, pointed, front}

-- back from a level whose floor is f
abbrev pub above : Float → Shortened → Shortened
above f r = record { value = add binary64 f (div binary64 r.value ten); levels = r.levels + 1 }

-- and through all the floors that the way down left behind, its last one first
unfoldable pub back : List Float → Shortened → Shortened
back [] r = r
back (f ∷ fs) r = above f (back fs r)

-- a number taken apart: a minus sign or none, the whole part, and so many decimals, which are the digits of a number
pub record Taken : Type 0 where
  pub minus : Bool
  pub whole : ℕ
  pub places : ℕ
  pub decimals : ℕ

abbrev pub parts : Bool → ℕ → ℕ → ℕ → Taken
parts s w p d = record { minus = s; whole = w; places = p; decimals = d }

-- p decimals, which are the digits of d, up to the last that is no zero
unfoldable pub trimmed : Bool → ℕ → ℕ → ℕ → Taken
trimmed s w zero d = parts s w 0 0
trimmed s w (suc p) d = cond (eqb (d % 10) 0) (trimmed s w p (d / 10)) (parts s w (suc p) d)

unfoldable pub parts_of : Float → ℕ → Taken
parts_of x p =
    cond (fills_up x p) (parts (sign_of x) (whole_part x + 1) 0 0)
    (trimmed (sign_of x) (whole_part x) p (decimals_of x p))

-- parts of which every digit is zero, a whole part of 0 and no decimals, lose their sign; of decimals the last is no zero (`parts_cut` of proofs/Zeros)
unfoldable pub unsigned_parts : Taken → Taken
unsigned_parts t = cond (eqb t.whole 0 && eqb t.places 0) (parts false 0 0 0) t

-- the point, k decimals, which are the digits of d, and zeros to e of them
abbrev pub tail_of : ℕ → ℕ → ℕ → List ℕ
tail_of k d e = pointed (filled_up e (last_digits k d))

abbrev pub tail_length : ℕ → ℕ → ℕ
tail_length k e = cond (eqb k 0 && eqb e 0) 0 (1 + max k e)

unfoldable pub bytes_of : Taken → ℕ → List ℕ
bytes_of t e = front t.minus t.whole ++ tail_of t.places t.decimals e

-- how many decimals may say anything of n, before any memory is lent: the reasons of `print` that come before 13
unfoldable pub decimals_for : Float → ℕ → ℕ → Answer ℕ
decimals_for n h e = lowest (11 when not (printable n) ∷ 12 when not (leb h 10 && leb e 20) ∷ []) (given h)
