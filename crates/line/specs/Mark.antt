-- 01 "From the drafting table": the line that the ruler program writes for a mark. Assumes nothing.
use Rattle.std.specs.Prelude.{ℕ, cond, List, [], ◌∷◌, ◌++◌, ltb, ℤ, length, drop}
use Rattle.decimal.specs.Print.{blank, decimal}

abbrev pub newline : ℕ
newline = 10

-- needle and place in base ten, a blank between them, and the line's end
unfoldable pub mark_line : ℤ → ℤ → List ℕ
mark_line v x = (decimal v ++ (blank ∷ [])) ++ (decimal x ++ (newline ∷ []))

-- how many bytes are written, and the lent bytes afterwards: the line at their start; nothing where they are fewer than 24, which is room
-- for every line
unfoldable pub put_mark : ℤ → ℤ → List ℕ → ℕ × List ℕ
put_mark v x old = cond (ltb (length old) 24) (0, old) (length (mark_line v x), mark_line v x ++ drop (length (mark_line v x)) old)
