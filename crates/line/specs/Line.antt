-- 01 "From the drafting table": the lines that the ruler program reads. Assumes nothing.
use Rattle.std.specs.Prelude.{ℕ, zero, suc, cond, List, [], ◌∷◌, ◌++◌, eqb, ltb, ℤ, pos, length, get_or, drop}
use Rattle.ranged1d.specs.Answer.{Answer, given, none, and_then}
use Rattle.ranged1d.specs.Admitted.{limit_of}
use Rattle.decimal.specs.Print.{blank, natural, decimal}
use Rattle.decimal.specs.Read.{same_bytes, read_i32, read_u32}
use Rattle.line.specs.declared.Request.{Request}

-- the bytes of the word rule
abbrev pub keyword : List ℕ
keyword = 114 ∷ 117 ∷ 108 ∷ 101 ∷ []

-- a line: the word, then a and b, the limits p and q, and m in base ten as labels have them without their blanks, one blank before each
abbrev pub line_of : Request → List ℕ
line_of r =
    keyword
    ++ (blank ∷ decimal r.a)
    ++ (blank ∷ decimal r.b)
    ++ (blank ∷ decimal r.limit.0)
    ++ (blank ∷ decimal r.limit.1)
    ++ (blank ∷ natural r.m)

-- ---- how a line is taken apart, from its left
-- the bytes before the first blank, or all of them
unfoldable pub word : List ℕ → List ℕ
word [] = []
word (c ∷ cs) = cond (eqb c blank) [] (c ∷ word cs)

-- a word that a blank ends, and what follows the blank
abbrev pub field : List ℕ → Answer (List ℕ × List ℕ)
field s = cond (ltb (length (word s)) (length s)) (given (word s, drop (suc (length (word s))) s)) none

-- a number in such a field, and what follows
abbrev pub whole_field : List ℕ → Answer (ℤ × List ℕ)
whole_field s = and_then (field s) (λ f. and_then (read_i32 f.0) (λ z. given (z, f.1)))

-- the word rule in such a field, and what follows
abbrev pub rule_field : List ℕ → Answer (List ℕ)
rule_field s = and_then (field s) (λ f. cond (same_bytes f.0 keyword) (given f.1) none)

-- so many numbers in fields, and what follows them
unfoldable pub whole_fields : ℕ → List ℕ → Answer (List ℤ × List ℕ)
whole_fields zero s = given ([], s)
whole_fields (suc k) s = and_then (whole_field s) (λ z. and_then (whole_fields k z.1) (λ r. given (z.0 ∷ r.0, r.1)))

-- a and b, the limits p and q, in this order, and m
abbrev pub request_of : List ℤ → ℕ → Request
request_of l m = record { a = get_or l 0 (pos 0); b = get_or l 1 (pos 0); limit = limit_of (get_or l 2 (pos 0)) (get_or l 3 (pos 0)); m = m }

-- the numbers of a line: four i32s, and a u32, which ends the line
unfoldable pub parse_numbers : List ℕ → Answer Request
parse_numbers s = and_then (whole_fields 4 s) (λ r. and_then (read_u32 r.1) (λ m. given (request_of r.0 m)))

-- the line; none is a bad one. `accepts` of proofs/Exact says that these are the lines `line_of` and no others.
unfoldable pub parse_line : List ℕ → Answer Request
parse_line s = and_then (rule_field s) parse_numbers
