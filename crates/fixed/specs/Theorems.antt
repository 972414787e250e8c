-- 02 (k): what may be relied on of printing and reading together, for every f by one argument, over the rules that the calls promise. `undone`, `shaped`
-- and `no_point` of proofs/Theorems prove `Undone f` and `Shaped f` of every f, and `NoPoint`. Assumes nothing.
use Rattle.std.specs.Prelude.{ℕ, ◌^◌, ◌≤◌, ◌<◌, ◌≡◌, true, List, ◌∷◌, ◌++◌, ◌↔◌, ℤ, length, get_or, take, drop}
use Rattle.ranged1d.specs.Answer.{given, refused}
use Rattle.ranged1d.specs.Admitted.{whole_admitted}
use Rattle.decimal.specs.Print.{digit, decimal}
use Rattle.fixed.specs.Fixed.{last_digits, fraction, size_text, fixed_text, fixed_print, fixed_read}

pub record Undone (f : ℕ) : Type 0 where
  -- what was printed is read as the number that was printed
  pub print_read : (z : ℤ) (old : List ℕ) (n : ℕ) → (fixed_print z f old).0 ≡ given n → fixed_read (take n (fixed_print z f old).1) f ≡ given z
  -- what was read is what is printed of the number, and nothing behind it is touched
  pub read_print : (s : List ℕ) (z : ℤ) (old : List ℕ) → fixed_read s f ≡ given z → length s ≤ length old → fixed_print z f old ≡ (given (length s), s ++ drop (length s) old)
  -- a text is read exactly where it is printed of an admitted number
  pub accepts : f ≤ 6 → (s : List ℕ) (z : ℤ) → (fixed_read s f ≡ given z) ↔ ((whole_admitted z ≡ true) × (s ≡ fixed_text f z))
  -- and says 25 of every other text
  pub refuses : f ≤ 6 → (s : List ℕ) → (fixed_read s f ≡ refused 25) ↔ ((z : ℤ) → whole_admitted z ≡ true → s ≡ fixed_text f z → ⊥)

-- ---- the text of a number of size n: one zero before the point where that is below one, else no zero in front; f digits behind the point; and twelve
-- bytes are always enough
pub record Shaped (f : ℕ) : Type 0 where
  pub below_one : (n : ℕ) → n < 10 ^ f → size_text f n ≡ digit 0 ∷ fraction f n
  pub from_one : (n : ℕ) → 10 ^ f ≤ n → n ≤ 1_000_000_000 → digit 1 ≤ get_or (size_text f n) 0 0
  pub after_point : (n : ℕ) → length (last_digits f n) ≡ f
  pub twelve_enough : f ≤ 6 → (z : ℤ) → whole_admitted z ≡ true → length (fixed_text f z) ≤ 12

-- ---- without decimals it is the text of the whole number: 01's label without its blanks
abbrev pub NoPoint : Type 0
NoPoint = (z : ℤ) → fixed_text 0 z ≡ decimal z
