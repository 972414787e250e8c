-- The rule of the call, by the walk over the borders. Assumes nothing.
use mathlib.Core.Path.{◌≡◌, sym, ap, ap₂, ◌∙◌}
use mathlib.Core.Bool.{true, false}
use mathlib.Core.List.{List, ◌++◌}
use Prim.Native.Nat.{ℕ, ◌/◌}
use lib.IntN.{ℤ}
use lib.ListN.{length, drop}
use Rattle.std.proofs.Common.{map}
use Rattle.std.specs.Simd.{first_chunks}
use Rattle.ranged1d.specs.Answer.{Answer, given, refused, written}
use Rattle.film.specs.Film.{borders_of, no_film, film_answer, film_bytes, film_write}
use Rattle.film.specs.declared.Border.{Border}
use Rattle.film.specs.Steps.{border_from, walked}
use Rattle.film.proofs.Borders.{borders_long, borders_are}
use Rattle.film.proofs.Walk.{answer_is}

module _ (l : List ℤ) (M : ℕ) (old : List ℕ) where
  pub no_film_lem : no_film l ≡ true → (refused 23, old) ≡ film_write l M old
  unfolding film_write
  no_film_lem e = rw e

  module _ (e : no_film l ≡ false) where
    abbrev n : ℕ
    n = length l / 5

    by_walk : film_write l M old ≡ written (walked M n 0 (borders_of l) (length old)) (film_bytes M n 0 (borders_of l)) old
    unfolding film_write
    by_walk =
        rw e
        (ap (λ (k : ℕ). written (film_answer M k 0 (borders_of l) old) (film_bytes M k 0 (borders_of l)) old) (borders_long l)
        ∙ ap (λ (r : Answer (ℕ × ℕ)). written r (film_bytes M n 0 (borders_of l)) old) (answer_is M n 0 (borders_of l) old))

    pub film_refused : {k : ℕ} → walked M (length l / 5) 0 (borders_of l) (length old) ≡ refused k → (refused k, old) ≡ film_write l M old
    film_refused h = sym (by_walk ∙ ap (λ (r : Answer (ℕ × ℕ)). written r (film_bytes M n 0 (borders_of l)) old) h)

    pub film_written : {s : ℕ × ℕ} {out : List ℕ} → walked M (length l / 5) 0 (borders_of l) (length old) ≡ given s
        → out ≡ film_bytes M (length l / 5) 0 (borders_of l) ++ drop (length (film_bytes M (length l / 5) 0 (borders_of l))) old → (given s, out) ≡ film_write l M old
    film_written {s} h o =
        ap (λ (t : List ℕ). (given s, t)) o ∙ sym (by_walk ∙ ap (λ (r : Answer (ℕ × ℕ)). written r (film_bytes M n 0 (borders_of l)) old) h)

-- the same of the numbers five at a time, as the code walks over them
module _ (l : List ℤ) (M : ℕ) (old : List ℕ) (e : no_film l ≡ false) (fives : List (List ℤ)) (f : fives ≡ first_chunks 5 (length l / 5) l) (g : length fives ≡ length l / 5) where
  walk_is : walked M (length fives) 0 (map border_from fives) (length old) ≡ walked M (length l / 5) 0 (borders_of l) (length old)
  walk_is = ap₂ (λ (n : ℕ) (xs : List Border). walked M n 0 xs (length old)) g (ap (map border_from) f ∙ borders_are l)

  bytes_are : film_bytes M (length fives) 0 (map border_from fives) ≡ film_bytes M (length l / 5) 0 (borders_of l)
  bytes_are = ap₂ (λ (n : ℕ) (xs : List Border). film_bytes M n 0 xs) g (ap (map border_from) f ∙ borders_are l)

  pub fives-refused : {k : ℕ} → refused k ≡ walked M (length fives) 0 (map border_from fives) (length old) → (refused k, old) ≡ film_write l M old
  fives-refused h = film_refused l M old e (sym (h ∙ walk_is))

  pub fives_written : {s : ℕ × ℕ} {out : List ℕ} → given s ≡ walked M (length fives) 0 (map border_from fives) (length old)
      → out ≡ film_bytes M (length fives) 0 (map border_from fives) ++ drop (length (film_bytes M (length fives) 0 (map border_from fives))) old → (given s, out) ≡ film_write l M old
  fives_written h o = film_written l M old e (sym (h ∙ walk_is)) (rw bytes_are at o)
