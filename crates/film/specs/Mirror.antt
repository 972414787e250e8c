-- 02 (j) with 02 (c): the mirror of a film, each border mirrored, in the same order. `mirror` of proofs/Mirror proves `FilmMirrored l M` of every list of
-- numbers
-- l and every M. Assumes nothing.
use Rattle.std.specs.Prelude.{ℕ, zero, suc, List, [], ◌∷◌, map, ◌≡◌, ℤ, pos, negsuc, neg_ℤ, length}
use Rattle.ranged1d.specs.Answer.{given}
use Rattle.real.specs.Mirror.{mirrored}
use Rattle.ruler.specs.Mirror.{MirrorOf, other_number}
use Rattle.film.specs.declared.Border.{Border}
use Rattle.film.specs.Film.{borders_of, ruler_for, film_write}
use Rattle.film.specs.Films.{IsBorder, share_in, start_in, cut}

-- a border's mirror: its axis and its limits negated, and the other twist
abbrev pub turned_border : Border → Border
turned_border x = record { a = neg_ℤ x.a; b = neg_ℤ x.b; limit = mirrored x.limit; twist = other_number x.twist }

-- the same of its five numbers. A number that is no twist stays as it is, and so do numbers that are left over.
abbrev pub other_twist_of : ℤ → ℤ
other_twist_of (pos zero) = pos 1
other_twist_of (pos (suc zero)) = pos 0
other_twist_of (pos (suc (suc n))) = pos (suc (suc n))
other_twist_of (negsuc n) = negsuc n

unfoldable pub mirrored_numbers : List ℤ → List ℤ
mirrored_numbers [] = []
mirrored_numbers (a ∷ []) = a ∷ []
mirrored_numbers (a ∷ (b ∷ [])) = a ∷ (b ∷ [])
mirrored_numbers (a ∷ (b ∷ (p ∷ []))) = a ∷ (b ∷ (p ∷ []))
mirrored_numbers (a ∷ (b ∷ (p ∷ (q ∷ [])))) = a ∷ (b ∷ (p ∷ (q ∷ [])))
mirrored_numbers (a ∷ (b ∷ (p ∷ (q ∷ (t ∷ l))))) = neg_ℤ a ∷ (neg_ℤ b ∷ (neg_ℤ p ∷ (neg_ℤ q ∷ (other_twist_of t ∷ mirrored_numbers l))))

pub record FilmMirrored (l : List ℤ) (M : ℕ) : Type 0 where
  -- the borders are mirrored one by one, in the same order
  pub borders : borders_of (mirrored_numbers l) ≡ map turned_border (borders_of l)
  -- lent as many bytes the mirrored film has the same answer: as many bytes and marks, or the same refusal
  pub same_answer : (old old' : List ℕ) → length old' ≡ length old → (film_write (mirrored_numbers l) M old').0 ≡ (film_write l M old).0
  -- where they are written, each border's ruler stands at the same place in both films, and there the one is the mirror of the other, with no record more
  pub each_mirrored : (old old' : List ℕ) (n k : ℕ) → length old' ≡ length old → (film_write l M old).0 ≡ given (n, k)
      → (before : List Border) (x : Border) (after : List Border) → IsBorder l before x after
      → MirrorOf (cut (start_in l M before) (length (ruler_for (share_in l M before) x)) (film_write (mirrored_numbers l) M old').1)
      (cut (start_in l M before) (length (ruler_for (share_in l M before) x)) (film_write l M old).1)
