-- 01 "From the drafting table": the rows on marks that are shown here, and two that are run as well, as one table. `worked` of
-- proofs/Worked checks every row by computing the rule. Assumes nothing.
use Rattle.std.specs.Prelude.{ℕ, Bool, true, false, ◌&&◌, List, [], ◌∷◌, eqb, ℤ, pos, neg_ℤ}
use Rattle.ranged1d.specs.Answer.{Answer, given, none, refused}
use Rattle.ranged1d.specs.Numbers.{same, same_each}
use Rattle.numeric.specs.Marks.{step_of, marks}
use Rattle.numeric.specs.Calls.{whole_plan}

-- what a row says of an axis and a mark limit: the step and the marks, the step alone, or the refusal
pub data Says : Type 0 where
  marks_are : ℕ → List ℤ → Says
  step_is : ℕ → Says
  is_refused : ℕ → Says

pub record Row : Type 0 where
  pub a : ℤ
  pub b : ℤ
  pub m : ℕ
  pub says : Says

-- a row holds: the call accepts or refuses as the row has it, with that step, and with those marks and no others
abbrev pub accepted : {A : Type 0} → Answer A → Bool
accepted (given x) = true
accepted none = false
accepted (refused n) = false

abbrev pub refused_with : {A : Type 0} → ℕ → Answer A → Bool
refused_with n (given x) = false
refused_with n none = false
refused_with n (refused k) = eqb k n

abbrev pub says_true : ℤ → ℤ → ℕ → Says → Bool
says_true a b m (marks_are s l) = accepted (whole_plan a b m) && (eqb (step_of a b m) s && same_each same (marks a b m) l)
says_true a b m (step_is s) = accepted (whole_plan a b m) && eqb (step_of a b m) s
says_true a b m (is_refused n) = refused_with n (whole_plan a b m)

abbrev pub holds : Row → Bool
holds r = says_true r.a r.b r.m r.says

abbrev row : ℤ → ℤ → ℕ → Says → Row
row a b m s = record { a = a; b = b; m = m; says = s }

abbrev minus : ℕ → ℤ
minus n = neg_ℤ (pos n)

abbrev pub rows : List Row
rows =
    row (pos 3) (pos 15) 4 (marks_are 5 (pos 5 ∷ pos 10 ∷ pos 15 ∷ []))
    ∷ row (minus 15) (minus 3) 4 (marks_are 5 (minus 15 ∷ minus 10 ∷ minus 5 ∷ pos 0 ∷ []))
    ∷ row (pos 0) (pos 10) 10 (step_is 1)
    ∷ row (pos 0) (pos 10) 9 (step_is 2)
    ∷ row (pos 0) (pos 10) 5 (step_is 5)
    ∷ row (pos 3) (pos 5) 1 (marks_are 10 [])
    ∷ row (minus 5) (minus 3) 1 (marks_are 10 (pos 0 ∷ []))
    ∷ row (pos 7) (pos 7) 0 (marks_are 1 (pos 7 ∷ []))
    ∷ row (pos 0) (pos 1) 0 (is_refused 3)
    ∷ row (pos 0) (pos 1_000_000_000) 1 (marks_are 1_000_000_000 (pos 0 ∷ pos 1_000_000_000 ∷ []))
    ∷ row (minus 1) (pos 1_000_000_000) 1 (is_refused 3)
    ∷ []
