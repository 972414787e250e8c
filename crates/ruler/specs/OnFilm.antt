-- 02 (a): marks that stay on the axis stay on the film. `on_film` of proofs/OnFilm proves `OnFilm a b limit m` wherever there is a ruler. Assumes nothing.
use Rattle.std.specs.Prelude.{◌≡◌, ℕ, ℤ, pos, ◌-ℤ◌, ◌≤ℤ◌, ◌≢◌, int_div}
use mathlib.Core.List.{Memᴰ}
use Rattle.ranged1d.specs.Answer.{given}
use Rattle.ranged1d.specs.Numbers.{low, high}
use Rattle.ranged1d.specs.declared.Limit.{Limit}
use Rattle.numeric.specs.declared.Choice.TheVariants.{Inside}
use Rattle.numeric.specs.Marks.{marks_by}
use Rattle.real.specs.Place.{whole_place}

-- x lies from p to q, whichever is the larger
abbrev pub Between : ℤ → ℤ → ℤ → Type 0
Between p q x = (low p q ≤ℤ x) × (x ≤ℤ high p q)

pub record OnFilm (a b : ℤ) (limit : Limit) (m : ℕ) : Type 0 where
  -- where the ends differ, every mark has a place, and it lies between the limits
  pub between : (a ≢ b) → (v : ℤ) → Memᴰ v (marks_by Inside a b m) → (x : ℤ) × (whole_place a b v limit ≡ given x) × Between limit.0 limit.1 x
  -- where they are equal, it is half of the film's length, cut toward zero, to which p is not added
  pub level : a ≡ b → (v : ℤ) → Memᴰ v (marks_by Inside a b m) → whole_place a b v limit ≡ given (int_div (limit.1 -ℤ limit.0) (pos 2))
