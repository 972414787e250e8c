-- 02 (l): the windows of the week in which the mill runs, the running minute of a clock minute, and the clock minute of a running minute. A minute
-- is a natural number. Assumes nothing.
use Rattle.std.specs.Prelude.{ℕ, zero, suc, ◌%◌, Bool, false, cond, ◌&&◌, ◌||◌, List, [], ◌∷◌, leb, ltb, eqb, length}
use Rattle.ranged1d.specs.Answer.{Answer, given, none, refused, Reason, ◌when◌, lowest}

-- ---- a window: its first minute, and the minute after its last one, which is its end
pub record Window : Type 0 where
  pub first : ℕ
  pub end : ℕ

-- Windows are lent as numbers in a row, two for each. A last number that stands alone is no window; 26 is met there.
abbrev pub windows_of : List ℕ → List Window
windows_of [] = []
windows_of (a ∷ []) = []
windows_of (a ∷ (e ∷ l)) = record { first = a; end = e } ∷ windows_of l

-- ---- 26: a window has no minute, or ends after the week's last
abbrev pub wrong : Window → Bool
wrong v = leb v.end v.first || ltb 10_080 v.end

-- or the next one begins no later than its end
abbrev pub meets : Window → List Window → Bool
meets v [] = false
meets v (u ∷ w) = leb u.first v.end

abbrev pub misplaced : List Window → Bool
misplaced [] = false
misplaced (v ∷ w) = wrong v || (meets v w || misplaced w)

-- or there are more than 32, or a number stands alone
abbrev pub bad_week : List ℕ → Bool
bad_week l = ltb 32 (length (windows_of l)) || (eqb (length l % 2) 1 || misplaced (windows_of l))

-- ---- the mill runs in minute m: m lies in a window
abbrev pub in_window : Window → ℕ → Bool
in_window v m = leb v.first m && ltb m v.end

abbrev pub runs : List Window → ℕ → Bool
runs [] m = false
runs (v ∷ w) m = in_window v m || runs w m

-- how many of the minutes 0 to n − 1 pass a test, counted one by one
unfoldable pub passing : (ℕ → Bool) → ℕ → ℕ
passing p zero = 0
passing p (suc n) = cond (p n) (suc (passing p n)) (passing p n)

-- ---- the running minute of the clock minute c: how many minutes before it lie in windows; none where c lies in none
abbrev pub running_of : List Window → ℕ → Answer ℕ
running_of w c = cond (runs w c) (given (passing (runs w) c)) none

-- ---- the clock minute of the running minute r: the minute of the week whose running minute is r; none where no minute has it. That there is never
-- another, and when there is none, is said by `Undone` of Theorems.
abbrev pub gives_minute : ℕ → Answer ℕ → Bool
gives_minute r (given k) = eqb k r
gives_minute r none = false
gives_minute r (refused n) = false

-- the one of the minutes 0 to n − 1 that passes a test; the last, were there several
unfoldable pub the_one : (ℕ → Bool) → ℕ → Answer ℕ
the_one p zero = none
the_one p (suc n) = cond (p n) (given n) (the_one p n)

unfoldable pub clock_of : List Window → ℕ → Answer ℕ
clock_of w r = the_one (λ c. gives_minute r (running_of w c)) 10_080

-- ---- `running`: 26 where the windows are no week, then 27 where the clock minute is not of the week
abbrev pub running_reasons : List ℕ → ℕ → List Reason
running_reasons l c = 26 when bad_week l ∷ 27 when ltb 10_079 c ∷ []

unfoldable pub running_minute : List ℕ → ℕ → Answer ℕ
running_minute l c = lowest (running_reasons l c) (running_of (windows_of l) c)

-- ---- `clock`: 26 where the windows are no week
unfoldable pub clock_minute : List ℕ → ℕ → Answer ℕ
clock_minute l r = lowest (26 when bad_week l ∷ []) (clock_of (windows_of l) r)
