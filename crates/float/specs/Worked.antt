-- Labels worked by hand, as one table: 01's row on labels of its drafting table (H 5, E 1), and labels that surprise. A number is given by its bits.
-- `worked` of proofs/Worked checks every row by computing the rule. Assumes nothing.
use Rattle.std.specs.Prelude.{Bool, List, [], ◌∷◌, ℕ}
use Rattle.std.specs.Float.{binary64}
use Rattle.std.specs.Float.Ieee.{of_bits}
use Rattle.decimal.specs.Read.{same_bytes}
use Rattle.float.specs.Text.{label_of}
use Rattle.float.specs.Scientific.{scientific_of}

pub record Row : Type 0 where
  pub bits : ℕ
  pub h : ℕ
  pub e : ℕ
  pub text : List ℕ

abbrev row : ℕ → ℕ → ℕ → List ℕ → Row
row b h e t = record { bits = b; h = h; e = e; text = t }

abbrev pub holds : Row → Bool
holds r = same_bytes (label_of (of_bits binary64 r.bits) r.h r.e) r.text

abbrev pub rows : List Row
rows =
    -- 3.0 with H 5, E 1: 3.0
    row 0x4008_0000_0000_0000 5 1 (51 ∷ 46 ∷ 48 ∷ [])
    -- 1.25 with H 5, E 1: 1.25
    ∷ row 0x3FF4_0000_0000_0000 5 1 (49 ∷ 46 ∷ 50 ∷ 53 ∷ [])
    -- -0.000001 with H 5, E 1: 0.0, by 02 (b)
    ∷ row 0xBEB0_C6F7_A0B5_ED8D 5 1 (48 ∷ 46 ∷ 48 ∷ [])
    -- 0.015 with H 2, E 0: 0.02
    ∷ row 0x3F8E_B851_EB85_1EB8 2 0 (48 ∷ 46 ∷ 48 ∷ 50 ∷ [])
    -- 2.9 with H 0, E 0: 2
    ∷ row 0x4007_3333_3333_3333 0 0 (50 ∷ [])
    -- -0.5 with H 0, E 1: 0.0, and with H 1: -0.5
    ∷ row 0xBFE0_0000_0000_0000 0 1 (48 ∷ 46 ∷ 48 ∷ [])
    ∷ row 0xBFE0_0000_0000_0000 1 1 (45 ∷ 48 ∷ 46 ∷ 53 ∷ [])
    -- 0.9 with H 1, E 0: 1
    ∷ row 0x3FEC_CCCC_CCCC_CCCD 1 0 (49 ∷ [])
    -- 1.005 with H 2, E 0: 1
    ∷ row 0x3FF0_147A_E147_AE14 2 0 (49 ∷ [])
    -- 0.25 with H 1, E 0: 0.3
    ∷ row 0x3FD0_0000_0000_0000 1 0 (48 ∷ 46 ∷ 51 ∷ [])
    -- -0.00001 with H 5, E 1: 0.0
    ∷ row 0xBEE4_F8B5_88E3_68F1 5 1 (48 ∷ 46 ∷ 48 ∷ [])
    -- 0.00001 with H 5, E 1: 0.00001
    ∷ row 0x3EE4_F8B5_88E3_68F1 5 1 (48 ∷ 46 ∷ 48 ∷ 48 ∷ 48 ∷ 48 ∷ 49 ∷ [])
    -- -0.0 with H 5, E 0: 0
    ∷ row 0x8000_0000_0000_0000 5 0 (48 ∷ [])
    ∷ []

-- and scientific labels: 02's tiny tension; zeros; an exponent that is short; plain text that is no longer; one more in front of ten; a number
-- shortened to zero; the longest label
abbrev pub holds_scientific : Row → Bool
holds_scientific r = same_bytes (scientific_of (of_bits binary64 r.bits) r.h r.e) r.text

abbrev pub scientific_rows : List Row
scientific_rows =
    -- 0.0000004 with H 5, E 1: 4.0e-7
    row 0x3E9A_D7F2_9ABC_AF48 5 1 (52 ∷ 46 ∷ 48 ∷ 101 ∷ 45 ∷ 55 ∷ [])
    -- -0.0000004 with H 5, E 1: -4.0e-7
    ∷ row 0xBE9A_D7F2_9ABC_AF48 5 1 (45 ∷ 52 ∷ 46 ∷ 48 ∷ 101 ∷ 45 ∷ 55 ∷ [])
    -- 0.0 with H 5, E 1: 0
    ∷ row 0x0000_0000_0000_0000 5 1 (48 ∷ [])
    -- -0.0 with H 5, E 1: 0
    ∷ row 0x8000_0000_0000_0000 5 1 (48 ∷ [])
    -- -0.5 with H 0, E 1: 0.0
    ∷ row 0xBFE0_0000_0000_0000 0 1 (48 ∷ 46 ∷ 48 ∷ [])
    -- 1234.5 with H 5, E 1: 1234.5
    ∷ row 0x4093_4A00_0000_0000 5 1 (49 ∷ 50 ∷ 51 ∷ 52 ∷ 46 ∷ 53 ∷ [])
    -- 999.9999 with H 5, E 0: 1e3
    ∷ row 0x408F_3FFF_CB92_3A2A 5 0 (49 ∷ 101 ∷ 51 ∷ [])
    -- -0.0012 with H 2, E 0: -1.2e-3
    ∷ row 0xBF53_A92A_3055_3261 2 0 (45 ∷ 49 ∷ 46 ∷ 50 ∷ 101 ∷ 45 ∷ 51 ∷ [])
    -- 0.000025 with H 5, E 2: 0.00003
    ∷ row 0x3EFA_36E2_EB1C_432D 5 2 (48 ∷ 46 ∷ 48 ∷ 48 ∷ 48 ∷ 48 ∷ 51 ∷ [])
    -- 1e15 with H 5, E 0: 1e15
    ∷ row 0x430C_6BF5_2634_0000 5 0 (49 ∷ 101 ∷ 49 ∷ 53 ∷ [])
    -- -1e-307 with H 10, E 20: -1.00000000000000000000e-307
    ∷ row 0x8031_FA18_2C40_C60D 10 20 (45 ∷ 49 ∷ 46 ∷ 48 ∷ 48 ∷ 48 ∷ 48 ∷ 48 ∷ 48 ∷ 48 ∷ 48 ∷ 48 ∷ 48 ∷ 48 ∷ 48 ∷ 48 ∷ 48 ∷ 48 ∷ 48 ∷ 48 ∷ 48 ∷ 48 ∷ 48 ∷ 101 ∷ 45 ∷ 51 ∷ 48 ∷ 55 ∷ [])
    ∷ []
