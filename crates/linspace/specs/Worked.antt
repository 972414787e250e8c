-- 01 "From the drafting table": the rows on stepped lists, as one table: 0..10 by 5, whose steps land on the end, and by 10, which reaches it
-- at once; and two more that fall. `worked` of proofs/Worked checks every row by computing the rule. Assumes nothing.
use Rattle.std.specs.Prelude.{Bool, List, [], ◌∷◌, ℤ, pos, negsuc}
use Rattle.ranged1d.specs.Numbers.{same, same_each}
use Rattle.linspace.specs.List.{whole, stepped}

pub record Row : Type 0 where
  pub a : ℤ
  pub b : ℤ
  pub d : ℤ
  pub entries : List ℤ

abbrev row : ℤ → ℤ → ℤ → List ℤ → Row
row a b d l = record { a = a; b = b; d = d; entries = l }

abbrev pub holds : Row → Bool
holds r = same_each same (stepped whole r.a r.b r.d) r.entries

abbrev pub rows : List Row
rows =
    row (pos 0) (pos 10) (pos 5) (pos 0 ∷ pos 5 ∷ [])
    ∷ row (pos 0) (pos 10) (pos 10) []
    ∷ row (pos 10) (pos 0) (negsuc 3) (pos 10 ∷ pos 6 ∷ pos 2 ∷ [])
    ∷ row (pos 7) (pos 7) (pos 1) []
    ∷ []
