-- 01 "From the drafting table": the row on whole readings, case by case, and four cases at the borders of the rule: a value past the
-- largest i32, an index past it, and limits that meet. `worked` of proofs/WorkedReadings checks them all by computing the rule. Assumes
-- nothing.
use Rattle.std.specs.Prelude.{List, [], ◌∷◌, ℤ, pos, negsuc}
use Rattle.ranged1d.specs.Answer.{Answer, given, none, refused}
use Rattle.ranged1d.specs.declared.Limit.{Limit}

pub record Reading : Type 0 where
  pub a : ℤ
  pub b : ℤ
  pub limit : Limit
  pub x : ℤ
  pub says : Answer ℤ

abbrev reading : ℤ → ℤ → ℤ → ℤ → ℤ → Answer ℤ → Reading
reading a b p q x s = record { a = a; b = b; limit = record { 0 = p; 1 = q }; x = x; says = s }

abbrev pub readings : List Reading
readings =
    reading (pos 0) (pos 9) (pos 0) (pos 100) (pos 99) (given (pos 9))
    ∷ reading (pos 0) (pos 9) (pos 0) (pos 100) (pos 100) (given (pos 10))
    ∷ reading (pos 0) (pos 9) (pos 0) (pos 100) (negsuc 0) (given (pos 0))
    ∷ reading (pos 9) (pos 0) (pos 0) (pos 100) (pos 50) (given (pos 9))
    ∷ reading (pos 500_000_000) (pos 1_000_000_000) (pos 0) (pos 1) (pos 4) (refused 10)
    ∷ reading (pos 500_000_000) (pos 1_000_000_000) (pos 0) (pos 1) (pos 5) none
    ∷ reading (pos 0) (pos 9) (pos 7) (pos 7) (pos 7) (given (pos 0))
    ∷ reading (pos 0) (pos 9) (pos 7) (pos 7) (pos 8) none
    ∷ []

-- 02 (g): an axis that descends by the way it runs, its end and a pixel past it; one that rises and one without length; 10 and 19 on an axis and its
-- mirror; an index past the largest i32; a pixel that is not admitted; limits that meet
abbrev pub directed_readings : List Reading
directed_readings =
    reading (pos 9) (pos 0) (pos 0) (pos 100) (pos 0) (given (pos 9))
    ∷ reading (pos 9) (pos 0) (pos 0) (pos 100) (pos 50) (given (pos 4))
    ∷ reading (pos 9) (pos 0) (pos 0) (pos 100) (pos 99) (given (pos 0))
    ∷ reading (pos 9) (pos 0) (pos 0) (pos 100) (pos 100) (given (negsuc 0))
    ∷ reading (pos 0) (pos 9) (pos 0) (pos 100) (pos 50) (given (pos 5))
    ∷ reading (pos 7) (pos 7) (pos 0) (pos 100) (pos 50) (given (pos 7))
    ∷ reading (pos 500_000_000) (pos 1_000_000_000) (pos 0) (pos 1) (pos 4) (refused 10)
    ∷ reading (negsuc 499_999_999) (negsuc 999_999_999) (pos 0) (pos 1) (pos 4) (refused 19)
    ∷ reading (negsuc 499_999_999) (negsuc 999_999_999) (pos 0) (pos 1) (pos 5) none
    ∷ reading (negsuc 147_483_646) (negsuc 999_999_998) (pos 0) (negsuc 0) (pos 1_000_001) (refused 2)
    ∷ reading (pos 9) (pos 0) (pos 7) (pos 7) (pos 8) none
    ∷ []
