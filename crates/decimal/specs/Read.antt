-- Texts that stand for whole numbers: exactly those that are printed, without blanks. 01 "From the drafting table": no leading zeros, no
-- minus before zero, within i32 or within u32. Assumes nothing.
use Rattle.std.specs.Prelude.{ℕ, ◌+◌, ◌-◌, ◌*◌, Bool, cond, ◌&&◌, List, [], ◌∷◌, leb, eqb, ℤ, pos, neg_ℤ}
use Rattle.ranged1d.specs.Answer.{Answer, given, none}
use Rattle.ranged1d.specs.Numbers.{is_i32, same_each}
use Rattle.decimal.specs.Print.{minus, natural, decimal}

-- the number that bytes stand for if they are digits, with n in front of them
unfoldable pub value_of : ℕ → List ℕ → ℕ
value_of n [] = n
value_of n (c ∷ cs) = value_of (n * 10 + (c - 48)) cs

-- and with a minus sign in front
abbrev pub signed_value : List ℕ → ℤ
signed_value [] = pos 0
signed_value (c ∷ cs) = cond (eqb c minus) (neg_ℤ (pos (value_of 0 cs))) (pos (value_of 0 (c ∷ cs)))

unfoldable pub same_bytes : List ℕ → List ℕ → Bool
same_bytes s t = same_each eqb s t

-- a text is read as the number that is printed so; every other text, and a number outside the type, is none
unfoldable pub read_i32 : List ℕ → Answer ℤ
read_i32 s = cond (is_i32 (signed_value s) && same_bytes s (decimal (signed_value s))) (given (signed_value s)) none

unfoldable pub read_u32 : List ℕ → Answer ℕ
read_u32 s = cond (leb (value_of 0 s) 4_294_967_295 && same_bytes s (natural (value_of 0 s))) (given (value_of 0 s)) none
