-- Whole numbers as the bits of a u32, and back. Assumes nothing.
use Rattle.std.proofs.Common.{◌≡◌, ℕ, ◌+◌, ◌*◌, ◌/◌, ◌%◌, ◌^◌, ◌<◌, ℤ, ap, ◌∙◌, to_z-of_z, w32, SFits, to_z, of_z}
use Rattle.std.proofs.lemmas.Nat.{from_le_bytes-to_le_bytes_4}
use mir.Facts.{Fits-of_z}

-- four bytes and back
pub word_back : (x : ℕ) → x < 2 ^ 32 → x % 256 + x / 256 % 256 * 256 + x / 65536 % 256 * 65536 + x / 16777216 % 256 * 16777216 ≡ x
word_back x h = from_le_bytes-to_le_bytes_4 x h

pub number-back : (z : ℤ) → SFits w32 z → to_z w32 (of_z w32 z % 256 + of_z w32 z / 256 % 256 * 256 + of_z w32 z / 65536 % 256 * 65536 + of_z w32 z / 16777216 % 256 * 16777216) ≡ z
number-back z f = ap (to_z w32) (word_back (of_z w32 z) (Fits-of_z f).fits) ∙ to_z-of_z f
