-- What the steps of the calls on whole stepped axes find, for the promises of private functions. Assumes nothing.
use Rattle.std.specs.Prelude.{ℕ, ◌+◌, ◌-◌, ◌*◌, ◌/◌, ◌≤◌, ◌≡◌, true, false, cond, leb, ltb, eqb, ℤ, pos, nat_abs, ◌+ℤ◌, ◌-ℤ◌, ◌*ℤ◌}
use Rattle.std.specs.Int.Signed.{lt_z, le_z}
use Rattle.linspace.specs.List.{whole, most, against, axis_admitted}

-- how many entries a list would have that is not bounded: the distance of the ends over the step's size, rounded up; none where the first
-- step reaches b
unfoldable pub whole_count : ℤ → ℤ → ℤ → ℕ
whole_count a b d = cond (leb (nat_abs (b -ℤ a)) (nat_abs d)) 0 ((nat_abs (b -ℤ a) - 1) / nat_abs d + 1)

-- how far v lies past a on the way to b
abbrev pub past : ℤ → ℤ → ℤ → ℤ
past a b v = cond (lt_z a b) (v -ℤ a) (a -ℤ v)

-- how many of n entries come before v on the way from a to b
abbrev pub cut_at : ℕ → ℕ → ℕ → ℕ
cut_at q s n = cond (eqb s 0) n (cond (ltb ((q - 1) / s + 1) n) ((q - 1) / s + 1) n)

unfoldable pub whole_position : ℤ → ℤ → ℤ → ℕ → ℤ → ℕ
whole_position a b d n v = cond (le_z (past a b v) (pos 0)) 0 (cut_at (nat_abs (past a b v)) (nat_abs d) n)

-- what is known of an axis whose list is not refused: it has n entries
pub record Known (a b d : ℤ) (n : ℕ) : Type 0 where
  pub admitted : axis_admitted whole a b d ≡ true
  pub onward : against whole a b d ≡ false
  pub count : n ≡ whole_count a b d
  pub few : n ≤ most

-- entry k is one of them: it lies from a to b, so that it and its distance from a are small
pub record Lies (a b d : ℤ) (k : ℕ) : Type 0 where
  pub index : k ≤ most
  pub far : k * nat_abs d ≤ 2_000_000_000
  pub near : nat_abs (a +ℤ pos k *ℤ d) ≤ 1_000_000_000
