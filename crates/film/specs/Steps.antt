-- What private functions ask for and promise on the way to the film: no part of the rules. Assumes nothing.
use Rattle.std.specs.Prelude.{ℕ, suc, ◌-◌, List, [], ◌∷◌, ◌++◌, ◌≡◌, ltb, ℤ, pos, length, get_or}
use Rattle.ranged1d.specs.Answer.{Answer, given, ◌when◌, lowest, and_then}
use Rattle.numeric.specs.declared.Choice.TheVariants.{Inside}
use Rattle.numeric.specs.Marks.{marks_by}
use Rattle.ruler.specs.declared.Draft.{Draft}
use Rattle.ruler.specs.Rule.{no_ruler}
use Rattle.film.specs.declared.Border.{Border}
use Rattle.film.specs.Film.{border_of, ruler_for, share, together}

-- the border that begins a list of numbers
unfoldable pub border_from : List ℤ → Border
border_from l = border_of (get_or l 0 (pos 0)) (get_or l 1 (pos 0)) (get_or l 2 (pos 0)) (get_or l 3 (pos 0)) (get_or l 4 (pos 0))

-- what its ruler is drawn for
abbrev pub draft_of : Border → ℕ → Draft
draft_of x m = record { a = x.a; b = x.b; limit = x.limit; m = m; choice = Inside }

-- what the writer answers for a border, by the number of bytes lent
unfoldable pub settled : Border → ℕ → ℕ → Answer (ℕ × ℕ)
settled x m room =
    lowest (no_ruler x.a x.b x.limit m ++ (13 when ltb room (length (ruler_for m x)) ∷ 15 when ltb 1 x.twist ∷ []))
    (given (length (ruler_for m x), length (marks_by Inside x.a x.b m)))

-- and for borders from border i on
unfoldable pub walked : ℕ → ℕ → ℕ → List Border → ℕ → Answer (ℕ × ℕ)
walked M n i [] room = given (0, 0)
walked M n i (x ∷ xs) room = and_then (settled x (share M n i) room) (λ r. and_then (walked M n (suc i) xs (room - r.0)) (λ s. given (together r s)))

-- something is given
abbrev pub Accepted : {A : Type 0} → Answer A → Type 0
Accepted {A} r = (x : A) × (r ≡ given x)
