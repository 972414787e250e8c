-- Marks of real axes, as the source with the table put in gives them, and refusals of 02 (d), as one table. `worked` of proofs/Worked checks every row
-- by computing the rule. Floats are written by their bits. Assumes nothing.
use Rattle.std.specs.Prelude.{ℕ, List, [], ◌∷◌}
use Rattle.ranged1d.specs.Answer.{Answer, given, refused}

pub record Row : Type 0 where
  pub a : ℕ
  pub b : ℕ
  pub m : ℕ
  pub says : Answer (List ℕ)

abbrev row : ℕ → ℕ → ℕ → Answer (List ℕ) → Row
row a b m s = record { a = a; b = b; m = m; says = s }

abbrev pub rows : List Row
rows =
    -- 0..1, m 3: 0, 0.5, 1
    row 0 0x3FF0_0000_0000_0000 3 (given (0 ∷ 0x3FE0_0000_0000_0000 ∷ 0x3FF0_0000_0000_0000 ∷ []))
    -- the same from the other end
    ∷ row 0x3FF0_0000_0000_0000 0 3 (given (0 ∷ 0x3FE0_0000_0000_0000 ∷ 0x3FF0_0000_0000_0000 ∷ []))
    -- −0.05..0.25, m 4: 0, 0.1, 0.2
    ∷ row 0xBFA9_9999_9999_999A 0x3FD0_0000_0000_0000 4 (given (0 ∷ 0x3FB9_9999_9999_999A ∷ 0x3FC9_9999_9999_999A ∷ []))
    -- 0.001..0.002, m 5: 0.001, 0.0015, 0.002
    ∷ row 0x3F50_624D_D2F1_A9FC 0x3F60_624D_D2F1_A9FC 5 (given (0x3F50_624D_D2F1_A9FC ∷ 0x3F58_9374_BC6A_7EFA ∷ 0x3F60_624D_D2F1_A9FC ∷ []))
    -- −1,000,000..1,000,000, m 2: 0
    ∷ row 0xC12E_8480_0000_0000 0x412E_8480_0000_0000 2 (given (0 ∷ []))
    -- 2.5..2.5, m 1: 2.5
    ∷ row 0x4004_0000_0000_0000 0x4004_0000_0000_0000 1 (given (0x4004_0000_0000_0000 ∷ []))
    -- NaN..1: none with m 0, else 17
    ∷ row 0x7FF8_0000_0000_0000 0x3FF0_0000_0000_0000 0 (given [])
    ∷ row 0x7FF8_0000_0000_0000 0x3FF0_0000_0000_0000 1 (refused 17)
    -- 0..1, m 1,001: 17
    ∷ row 0 0x3FF0_0000_0000_0000 1001 (refused 17)
    -- 0..2^-52: 17, as EPSILON apart is not closer than EPSILON
    ∷ row 0 0x3CB0_0000_0000_0000 5 (refused 17)
    -- 0..0.001, which is as near as ends may be: 0, 0.0005, 0.001
    ∷ row 0 0x3F50_624D_D2F1_A9FC 3 (given (0 ∷ 0x3F40_624D_D2F1_A9FC ∷ 0x3F50_624D_D2F1_A9FC ∷ []))
    -- 0 to the double before 0.001: 17
    ∷ row 0 0x3F50_624D_D2F1_A9FB 3 (refused 17)
    ∷ []
