-- 01 "Mirroring, real reading, stepped axes": the list of a stepped axis (a, b, d), of whole or of real numbers, and when it is refused.
-- Assumes nothing.
use Rattle.std.specs.Prelude.{ℕ, zero, suc, Bool, true, false, cond, ◌&&◌, ◌||◌, List, [], ◌∷◌, ltb, ℤ, pos, ◌+ℤ◌, length, Float}
use Rattle.std.specs.Float.Ieee as Ieee
use Rattle.std.specs.Float.{fin, binary64}
use Rattle.ranged1d.specs.Admitted.{whole_admitted}
use Rattle.search.specs.Search.{Numbers, wholes, reals}
use Rattle.search.specs.Lists as in_list

-- ---- what the rules ask of a kind of number, besides what a search asks: a sum, zero, which are admitted, and the number as an f64
pub record Kind (A : Type 0) : Type 0 where
  pub numbers : Numbers A
  pub plus : A → A → A
  pub nil : A
  pub admitted : A → Bool
  pub float : A → Float

abbrev pub whole : Kind ℤ
whole = record { numbers = wholes; plus = ◌+ℤ◌; nil = pos 0; admitted = whole_admitted; float = Ieee.of_int binary64 }

-- Sums are rounded, and every f64 is admitted.
abbrev pub real : Kind Float
real = record { numbers = reals; plus = Ieee.add binary64; nil = fin false 0 (pos 0); admitted = λ x. true; float = λ x. x }

-- ---- x, then next x, then next of that, and so on, while they pass, but no more than so many
unfoldable pub entries : {A : Type 0} → (A → Bool) → (A → A) → ℕ → A → List A
entries passes next zero x = []
entries passes next (suc n) x = cond (passes x) (x ∷ entries passes next n (next x)) []

-- 01 "Why a call stops", 7: a list has at most 65,536 entries. One more is enough to know that a list is too long, so that lists which
-- do not end need not be told apart from long ones.
abbrev pub most : ℕ
most = 65_536

-- x comes before b in the direction from a to b
abbrev pub toward : {A : Type 0} → Kind A → Bool → A → A → Bool
toward kind rises b x = in_list.toward rises kind.numbers.less x b

module _ {A : Type 0} (kind : Kind A) (a b d : A) where
  -- from a upward or downward, with a + d before b too. Where a and b, or a + d and b, do not compare, neither is the case; nor where a
  -- equals b, or a + d has reached or passed it.
  abbrev pub headed : Bool → Bool
  headed rises = toward kind rises b a && toward kind rises b (kind.plus a d)

  abbrev pub run : Bool → List A
  run rises = entries (toward kind rises b) (λ x. kind.plus x d) (suc most) a

  -- the list: a, a + d, (a + d) + d and so on while before b
  unfoldable pub stepped : List A
  stepped = cond (headed true) (run true) (cond (headed false) (run false) [])

  -- 6: a step that is zero or leads away from b
  unfoldable pub against : Bool
  against =
      kind.numbers.less a b && (kind.numbers.less d kind.nil || kind.numbers.equal d kind.nil)
      || kind.numbers.less b a && (kind.numbers.less kind.nil d || kind.numbers.equal kind.nil d)

  -- 7: more entries than a list may have
  abbrev pub too_long : Bool
  too_long = ltb most (length stepped)

  -- 1: an end or the step is not admitted
  abbrev pub axis_admitted : Bool
  axis_admitted = kind.admitted a && kind.admitted b && kind.admitted d
