-- The rows of specs/Worked, by computing the rule; and that a film has at most M marks, refuted. Assumes nothing.
use Prim.Native.Nat.{ℕ, ◌≤◌}
use mathlib.Core.Path.{◌≡◌, refl}
use mathlib.Core.List.{List, [], ◌∷◌, map}
use native.Mathlib.Omega.{arith}
use lib.IntN.{ℤ}
use lib.ListN.{replicate}
use Rattle.ranged1d.specs.Answer.{Answer, given}
use Rattle.decimal.specs.Print.{digits}
use Rattle.numeric.specs.Marks.{step_at, first_of, chosen, no_step_for, step_for, inside_for}
use Rattle.ruler.specs.Bytes.{axis_body, mark_body, laid}
use Rattle.ruler.specs.Rule.{bytes_by, twisted_write}
use Rattle.film.specs.Film.{share, borders_of, film_answer, film_write}
use Rattle.film.specs.Worked.{fourteen, three, two, films}

pub shares_worked : (map (share 14 4) (0 ∷ 1 ∷ 2 ∷ 3 ∷ []) ≡ fourteen) × (map (share 3 4) (0 ∷ 1 ∷ 2 ∷ 3 ∷ []) ≡ three)
shares_worked = (refl, refl)

pub films_worked : map (λ (r : List ℤ × ℕ × Answer (ℕ × ℕ)). (film_write r.0 2 (replicate r.1 0)).0) films ≡ map (λ (r : List ℤ × ℕ × Answer (ℕ × ℕ)). r.2) films
unfolding film_write borders_of film_answer twisted_write bytes_by laid axis_body mark_body digits step_at first_of chosen no_step_for step_for inside_for
films_worked = refl

-- two borders with a mark each, under the mark limit 0: M + n marks are reached
reached : (film_write two 0 (replicate 92 0)).0 ≡ given (92, 2)
unfolding film_write borders_of film_answer twisted_write bytes_by laid axis_body mark_body digits step_at first_of chosen no_step_for step_for inside_for
reached = refl

abbrev AtMost : Type 0
AtMost = (l : List ℤ) (M : ℕ) (old : List ℕ) (n k : ℕ) → (film_write l M old).0 ≡ given (n, k) → k ≤ M

pub not_at_most : AtMost → ⊥
not_at_most f = omega (arith, f two 0 (replicate 92 0) 92 2 reached)
