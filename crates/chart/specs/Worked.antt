-- Pins on small charts, as one table: the axis, the deed and the pin, how many counts are lent and what each of them is; and the entry where the pin
-- counts, or the number of the refusal. `worked` of proofs/Worked checks every row by computing the rule. Assumes nothing.
use Rattle.std.specs.Prelude.{ℕ, Bool, false, List, [], ◌∷◌, eqb, ℤ, pos, negsuc, replicate}
use Rattle.ranged1d.specs.Answer.{Answer, given, none, refused, and_then}
use Rattle.chart.specs.Chart.{Deed, Setting, Pulling, pin_entry, chart_pin}

pub record Row : Type 0 where
  pub a : ℤ
  pub b : ℤ
  pub d : ℤ
  pub deed : Deed
  pub pin : ℤ
  pub lent : ℕ
  pub each : ℕ
  pub entry : Answer ℕ

abbrev row : ℤ → ℤ → ℤ → Deed → ℤ → ℕ → ℕ → Answer ℕ → Row
row a b d deed pin lent each entry = record { a = a; b = b; d = d; deed = deed; pin = pin; lent = lent; each = each; entry = entry }

abbrev alike : Answer ℕ → Answer ℕ → Bool
alike (given j) (given k) = eqb j k
alike (refused m) (refused n) = eqb m n
alike (given j) none = false
alike (given j) (refused n) = false
alike none r = false
alike (refused m) (given k) = false
alike (refused m) none = false

abbrev pub holds : Row → Bool
holds r =
    alike (and_then (chart_pin r.a r.b r.d r.deed r.pin (replicate r.lent r.each)).0 (λ x. pin_entry r.a r.b r.d r.pin)) r.entry

-- 0..10 by 5 lists 0 and 5; 10..0 by −4 lists 10, 6 and 2; 7..7 and 0..5 by 5 list nothing; 0..1,024 by 1 has 1,024 entries, and 0..1,025 one too many
abbrev pub rows : List Row
rows =
    row (pos 0) (pos 10) (pos 5) Setting (pos 4) 1_024 0 (given 0)
    ∷ row (pos 0) (pos 10) (pos 5) Setting (pos 5) 1_024 0 (given 1)
    ∷ row (pos 0) (pos 10) (pos 5) Setting (pos 999) 1_025 65_534 (given 1)
    ∷ row (pos 0) (pos 10) (pos 5) Pulling (pos 9) 1_024 1 (given 1)
    ∷ row (pos 0) (pos 10) (pos 5) Setting (negsuc 0) 1_024 0 (refused 20)
    ∷ row (pos 10) (pos 0) (negsuc 3) Setting (pos 11) 1_024 0 (given 0)
    ∷ row (pos 10) (pos 0) (negsuc 3) Setting (pos 7) 1_024 0 (given 1)
    ∷ row (pos 10) (pos 0) (negsuc 3) Setting (pos 1) 1_024 0 (refused 20)
    ∷ row (pos 7) (pos 7) (pos 1) Setting (pos 7) 1_024 0 (refused 20)
    ∷ row (pos 0) (pos 5) (pos 5) Setting (pos 0) 1_024 0 (refused 20)
    ∷ row (pos 0) (pos 10) (pos 5) Setting (pos 4) 1_024 65_535 (refused 21)
    ∷ row (pos 0) (pos 10) (pos 5) Pulling (pos 4) 1_024 0 (refused 22)
    ∷ row (pos 0) (pos 10) (pos 5) Pulling (pos 4) 1_023 0 (refused 13)
    ∷ row (pos 0) (pos 10) (negsuc 0) Setting (pos 5) 0 0 (refused 6)
    ∷ row (pos 0) (pos 10) (pos 5) Setting (pos 1_000_000_001) 0 0 (refused 1)
    ∷ row (pos 0) (pos 1_024) (pos 1) Setting (pos 1_023) 1_024 0 (given 1_023)
    ∷ row (pos 0) (pos 1_025) (pos 1) Setting (pos 3) 0 0 (refused 20)
    ∷ []
