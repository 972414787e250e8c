-- 02 (c): what moving rulers over and back keeps. `moves` of proofs/Moves proves `Moves`. Assumes nothing.
use Rattle.std.specs.Prelude.{◌≡◌, ℕ, ◌+◌, ◌-◌, ◌≤◌, true, false, List, ◌++◌, length, drop}
use Rattle.ranged1d.specs.Answer.{given}
use Rattle.ruler.specs.declared.Twist.TheVariants.{Plain, S}
use Rattle.ruler.specs.Rule.{bytes_by, form_in, a_in, b_in, limit_in, m_in, is_z, is_old, is_twisted, with_twist, upgraded, downgraded, ruler_upgrade, ruler_downgrade}

pub record Moves : Type 0 where
  -- a ruler of the old kinds, moved over: one byte more, and the very bytes that the writer gives for its numbers with the twist S
  pub over : (l : List ℕ) → is_old l ≡ true → (old : List ℕ) → length l + 1 ≤ length old
      → ruler_upgrade l old ≡ (given (length l + 1), bytes_by (with_twist S (form_in l)) (a_in l) (b_in l) (limit_in l) (m_in l) ++ drop (length l + 1) old)
  -- an S ruler, moved back: one byte less, and the very bytes that the writer gives for its numbers without a twist
  pub back : (l : List ℕ) → is_twisted l ≡ true → is_z (form_in l).twist ≡ false → (old : List ℕ) → length l - 1 ≤ length old
      → ruler_downgrade l old ≡ (given (length l - 1), bytes_by (with_twist Plain (form_in l)) (a_in l) (b_in l) (limit_in l) (m_in l) ++ drop (length l - 1) old)
  -- over and back: what was moved over is an S ruler, and moved back it is the old ruler, byte for byte
  pub over_and_back : (l : List ℕ) → is_old l ≡ true → (is_twisted (upgraded l) ≡ true) × (is_z (form_in (upgraded l)).twist ≡ false) × (downgraded (upgraded l) ≡ l)
  -- back and over: what was moved back is an old ruler, and moved over it is the S ruler, byte for byte
  pub back_and_over : (l : List ℕ) → is_twisted l ≡ true → is_z (form_in l).twist ≡ false → (is_old (downgraded l) ≡ true) × (upgraded (downgraded l) ≡ l)
