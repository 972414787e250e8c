-- 02 (j): several borders on one film, each with its own axis, limits and twist, under one mark limit for the film. Assumes nothing.
use Rattle.std.specs.Prelude.{ℕ, suc, ◌+◌, ◌/◌, ◌%◌, Bool, cond, not, ◌||◌, List, [], ◌∷◌, ◌++◌, ltb, eqb, ℤ, pos, negsuc, length, drop}
use Rattle.ranged1d.specs.Answer.{Answer, given, ◌when◌, lowest, written, and_then}
use Rattle.ranged1d.specs.Admitted.{limit_of}
use Rattle.numeric.specs.declared.Choice.TheVariants.{Inside}
use Rattle.ruler.specs.Rule.{bytes_by, twisted, twisted_write}
use Rattle.film.specs.declared.Border.{Border}

-- ---- the borders
-- a twist as the writer of rulers is handed it: a number below zero is neither 0 nor 1, as 2 is
abbrev pub twist_handed : ℤ → ℕ
twist_handed (pos t) = t
twist_handed (negsuc t) = 2

abbrev pub border_of : ℤ → ℤ → ℤ → ℤ → ℤ → Border
border_of a b p q t = record { a = a; b = b; limit = limit_of p q; twist = twist_handed t }

-- Borders are lent as numbers in a row, five for each: a, b, p, q and the twist. Up to four last numbers that are no border are left out; 23 is met there.
unfoldable pub borders_of : List ℤ → List Border
borders_of [] = []
borders_of (a ∷ []) = []
borders_of (a ∷ (b ∷ [])) = []
borders_of (a ∷ (b ∷ (p ∷ []))) = []
borders_of (a ∷ (b ∷ (p ∷ (q ∷ [])))) = []
borders_of (a ∷ (b ∷ (p ∷ (q ∷ (t ∷ l))))) = border_of a b p q t ∷ borders_of l

-- 23: no border, or more than 16, or numbers that are left over
abbrev pub no_film : List ℤ → Bool
no_film l = eqb (length (borders_of l)) 0 || (ltb 16 (length (borders_of l)) || not (eqb (length l % 5) 0))

-- ---- the mark limit, shared out: of n borders each may use the whole part of M ÷ n, and the first ones, as many as the remainder, one more. Borders are
-- counted from 0.
abbrev pub share : ℕ → ℕ → ℕ → ℕ
share M n i = M / n + cond (ltb i (M % n)) 1 0

-- ---- one border under the mark limit m: what the writer of kind 6 answers for it alone, and the bytes of its ruler
abbrev pub alone : ℕ → Border → List ℕ → Answer (ℕ × ℕ) × List ℕ
alone m x old = twisted_write Inside x.twist x.a x.b x.limit m old

abbrev pub ruler_for : ℕ → Border → List ℕ
ruler_for m x = bytes_by (twisted Inside x.twist) x.a x.b x.limit m

-- ---- borders from border i on, of n, to which the bytes `left` are left: each is answered as it would be alone with its share, lent what the rulers
-- before it
-- leave. The first that is refused decides; else the bytes and the marks of all together are counted.
abbrev pub together : ℕ × ℕ → ℕ × ℕ → ℕ × ℕ
together r s = (r.0 + s.0, r.1 + s.1)

unfoldable pub film_answer : ℕ → ℕ → ℕ → List Border → List ℕ → Answer (ℕ × ℕ)
film_answer M n i [] left = given (0, 0)
film_answer M n i (x ∷ xs) left =
    and_then (alone (share M n i) x left).0 (λ r. and_then (film_answer M n (suc i) xs (drop r.0 left)) (λ s. given (together r s)))

-- their rulers, one behind another
unfoldable pub film_bytes : ℕ → ℕ → ℕ → List Border → List ℕ
film_bytes M n i [] = []
film_bytes M n i (x ∷ xs) = ruler_for (share M n i) x ++ film_bytes M n (suc i) xs

-- ---- `write`: 23 before all others; then the borders' answer; the rulers stand at the start of the lent bytes, once every border is accepted
unfoldable pub film_write : List ℤ → ℕ → List ℕ → Answer (ℕ × ℕ) × List ℕ
film_write l M old =
    written (lowest (23 when no_film l ∷ []) (film_answer M (length (borders_of l)) 0 (borders_of l) old)) (film_bytes M (length (borders_of l)) 0 (borders_of l)) old
