-- 02 (j), worked: shares, and films by their answer. `shares_worked` and `films_worked` of proofs/Worked check them. `not_at_most` there refutes that a film
-- has at most M marks. Assumes nothing.
use Rattle.std.specs.Prelude.{ℕ, List, [], ◌∷◌, ℤ, pos, negsuc}
use Rattle.ranged1d.specs.Answer.{Answer, given, refused}

-- 14 marks shared out to four borders, and 3
abbrev pub fourteen : List ℕ
fourteen = 4 ∷ 4 ∷ 3 ∷ 3 ∷ []

abbrev pub three : List ℕ
three = 1 ∷ 1 ∷ 1 ∷ 0 ∷ []

-- borders with equal ends, which have one mark or none and need no step: a, b, p, q, twist
abbrev pub level : ℤ → ℤ → List ℤ → List ℤ
level a t l = a ∷ (a ∷ (pos 0 ∷ (pos 100 ∷ (t ∷ l))))

abbrev pub two : List ℤ
two = level (pos 7) (pos 1) (level (negsuc 4) (pos 0) [])

-- numbers, the bytes lent, and what is answered for them under the mark limit 2
abbrev pub films : List (List ℤ × ℕ × Answer (ℕ × ℕ))
films =
    -- no border, and numbers that are none
    ([], 100, refused 23)
    ∷ (pos 0 ∷ [], 100, refused 23)
    -- a ruler of 46 bytes with its one mark, and with a byte too few
    ∷ (level (pos 7) (pos 1) [], 46, given (46, 1))
    ∷ (level (pos 7) (pos 1) [], 45, refused 13)
    -- two of them, and with a byte too few for the second
    ∷ (two, 92, given (92, 2))
    ∷ (two, 91, refused 13)
    -- 13 at the first border comes before 1 at the second, and 15 before 1; but 1 comes where the first is accepted
    ∷ (level (pos 7) (pos 1) (level (pos 1_000_000_001) (pos 0) []), 45, refused 13)
    ∷ (level (pos 7) (pos 2) (level (pos 1_000_000_001) (pos 0) []), 100, refused 15)
    ∷ (level (pos 7) (negsuc 0) (level (pos 1_000_000_001) (pos 0) []), 100, refused 15)
    ∷ (level (pos 7) (pos 1) (level (pos 1_000_000_001) (pos 0) []), 100, refused 1)
    ∷ []
