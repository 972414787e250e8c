-- What the search by halves asks of the part of the table that it looks at. It serves private functions only, and is no part of the rules. Assumes nothing.
use Rattle.std.specs.Prelude.{ℕ, suc, ◌+◌, ◌≤◌, ◌<◌, ◌≡◌, List, length, get_or, Float}
use Rattle.std.specs.Float.{nan}
use Rattle.decades.specs.Powers.{size, power}
use Rattle.decades.specs.Decade.{last_of, reached, decade_index}

-- the list l is the table from entry i on, and the decade of x is in it: no entry behind l is reached by x, and of those up to entry i the last that is
-- reached is entry i itself
pub record Holds (l : List Float) (i : ℕ) (x : Float) : Type 0 where
  pub some : 0 < length l
  pub inside : i + length l ≤ size
  pub entries : (k : ℕ) → k < length l → get_or l k nan ≡ power (i + k)
  pub ends : decade_index x ≡ last_of (reached x) (i + length l)
  pub begins : last_of (reached x) (suc i) ≡ i
