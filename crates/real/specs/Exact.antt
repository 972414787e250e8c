-- 02 (e): how far a needle of a whole axis lies from p, counted exactly in whole numbers, and what that says of the place that `map`
-- answers. Assumes nothing.
use Rattle.std.specs.Prelude.{◌≡◌, not, ◌&&◌, ◌||◌, List, [], ◌∷◌, ◌⊎◌, ℕ, ◌+◌, ◌*◌, ◌/◌, ◌%◌, ◌≤◌, ℤ, pos, negsuc, neg_ℤ, nat_abs, ◌+ℤ◌, ◌-ℤ◌}
use Rattle.ranged1d.specs.Answer.{Answer, given, ◌when◌, lowest, Reason}
use Rattle.ranged1d.specs.Admitted.{whole_admitted, ends_admitted, limit_admitted}
use Rattle.ranged1d.specs.Numbers.{same}
use Rattle.ranged1d.specs.declared.Limit.{Limit}
use Rattle.real.specs.Place.{whole_place}
use Rattle.real.specs.Reading.{outside}
use Rattle.real.specs.Mirror.{mirrored}

-- ---- the rule. Pixels of film times how far v lies from a, which is divided by the length of the axis: so many whole pixels is v away
-- from p, and so many parts of a pixel more, of which the length of the axis makes one.
abbrev pub pixels : Limit → ℕ
pixels limit = nat_abs (limit.1 -ℤ limit.0)

abbrev pub distance : ℤ → ℤ → ℕ
distance a v = nat_abs (v -ℤ a)

abbrev pub quotient : ℤ → ℤ → ℤ → Limit → ℕ
quotient a b v limit = pixels limit * distance a v / distance a b

abbrev pub remainder : ℤ → ℤ → ℤ → Limit → ℕ
remainder a b v limit = pixels limit * distance a v % distance a b

-- why there is none: 1 and 2 as for a place; then 18 where the ends are equal, or v is below both or above both
abbrev pub exact_reasons : ℤ → ℤ → ℤ → Limit → List Reason
exact_reasons a b v limit =
    1 when not (ends_admitted a b && whole_admitted v)
    ∷ 2 when not (limit_admitted limit)
    ∷ 18 when (same a b || outside v a b)
    ∷ []

unfoldable pub whole_exact : ℤ → ℤ → ℤ → Limit → Answer (ℕ × ℕ)
whole_exact a b v limit = lowest (exact_reasons a b v limit) (given (quotient a b v limit, remainder a b v limit))

-- ---- what a setter may rely on
-- the place k pixels from p in the direction of q, L being q − p
abbrev pub toward : ℤ → ℕ → ℤ
toward (pos l) k = pos k
toward (negsuc l) k = neg_ℤ (pos k)

abbrev pub away : Limit → ℕ → ℤ
away limit k = limit.0 +ℤ toward (limit.1 -ℤ limit.0) k

-- Of an exact place of n pixels and the remainder r: the place that `map` answers is n pixels away from p toward q, or n + 1 pixels; the
-- latter only where a thousand remainders make at least 998 lengths of the axis.
pub record Relied (a b v : ℤ) (limit : Limit) (n r : ℕ) : Type 0 where
  pub k : ℕ
  pub place : whole_place a b v limit ≡ given (away limit k)
  pub near : (k ≡ n) ⊎ ((k ≡ n + 1) × (998 * distance a b ≤ 1000 * r))
  -- sharper: 998.999999 lengths; 999 would be too much (`not_999` of proofs/Worked)
  pub nearer : k ≡ n + 1 → 998_999_999 * distance a b ≤ 1_000_000_000 * r

-- `exact` of proofs/Relied proves `Exact limit` of all limits.
pub record Exact (limit : Limit) : Type 0 where
  -- wherever an exact place is answered, it can be relied on
  pub relied : (a b v : ℤ) {n r : ℕ} → whole_exact a b v limit ≡ given (n, r) → Relied a b v limit n r
  -- the mirrored needle has the same quotient and remainder, or is refused with the same number
  pub mirror : (a b v : ℤ) → whole_exact (neg_ℤ a) (neg_ℤ b) (neg_ℤ v) (mirrored limit) ≡ whole_exact a b v limit
