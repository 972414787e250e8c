-- Doubles that are not negative rise with their bits, so that a test against the two neighbours is one against all. Assumes nothing.
use mathlib.Core.Path.{◌≡◌, refl, sym, ap, ◌∙◌}
use mathlib.Core.Bool.{Bool, true, false, ◌&&◌}
use mathlib.Core.Logic.{◌⊎◌, inl, inr}
use Prim.Native.Nat.{ℕ, zero, suc, ◌+◌, ◌-◌, ◌*◌, ◌/◌, ◌%◌, ◌^◌, ◌≤◌, ◌<◌}
use native.Mathlib.Nat.{mul-lt-mul_of_pos_right, mul-le-mul_right, add-mul, pow-suc, mul_comm, mul_assoc, mul_right_comm}
use native.Mathlib.Omega.{arith}
use borrow.Author.Tests.{leb-true, ltb-true, eqb-true, ltb-false}
use lib.Dec.{ltb, eqb}
use lib.Pow.{pow_pos}
use Rattle.ranged1d.proofs.Bools.{both_true}
use Rattle.decades.specs.Nearest.{scaled, value, up_to, is_nearest, Nearest}

-- ---- one step up, within a field and into the next
within-field : (x t : ℕ) → scaled x t < scaled x (t + 1)
within-field zero t = omega arith
within-field (suc x) t = mul-lt-mul_of_pos_right {m = 2 ^ 52 + t} {n = 2 ^ 52 + (t + 1)} (omega arith) (pow_pos x)

next_field : (x t : ℕ) → t + 1 ≡ 2 ^ 52 → scaled x t < scaled (suc x) 0
next_field zero t e = omega arith
next_field (suc x) t e =
    let u : (2 ^ 52 + t) * 2 ^ x < (2 ^ 52 * 2) * 2 ^ x = mul-lt-mul_of_pos_right (omega arith) (pow_pos x) in
    rw (pow-suc 2 x) (omega (arith, u))

value-rises : (b : ℕ) → value b < value (b + 1)
unfolding value
value-rises b = go (ltb (b % 2 ^ 52 + 1) (2 ^ 52)) refl
  where
    go : (t : Bool) → ltb (b % 2 ^ 52 + 1) (2 ^ 52) ≡ t → scaled (b / 2 ^ 52) (b % 2 ^ 52) < scaled ((b + 1) / 2 ^ 52) ((b + 1) % 2 ^ 52)
    go true h =
        let l : b % 2 ^ 52 + 1 < 2 ^ 52 = ltb-true (b % 2 ^ 52 + 1) (2 ^ 52) h in
        let q : (b + 1) / 2 ^ 52 ≡ b / 2 ^ 52 = omega arith in
        let r : (b + 1) % 2 ^ 52 ≡ b % 2 ^ 52 + 1 = omega arith in
        rw (q, r) (within-field (b / 2 ^ 52) (b % 2 ^ 52))
    go false h =
        let l : 2 ^ 52 ≤ b % 2 ^ 52 + 1 = ltb-false (b % 2 ^ 52 + 1) (2 ^ 52) h in
        let q : (b + 1) / 2 ^ 52 ≡ suc (b / 2 ^ 52) = omega arith in
        let r : (b + 1) % 2 ^ 52 ≡ 0 = omega arith in
        rw (q, r) (next_field (b / 2 ^ 52) (b % 2 ^ 52) (omega arith))

value-more : (b n : ℕ) → value b ≤ value (b + n)
value-more b zero = let e : b + 0 ≡ b = omega arith in rw e (omega arith)
value-more b (suc n) =
    let e : b + suc n ≡ b + n + 1 = omega arith in
    rw e (omega (arith, value-more b n, value-rises (b + n)))

pub value-order : (b c : ℕ) → b ≤ c → value b ≤ value c
value-order b c h = let e : b + (c - b) ≡ c = omega arith in rw e at (value-more b (c - b))

-- ---- a point w on a line, and how far it is from x
abbrev apart : ℕ → ℕ → ℕ
apart x w = x - w + (w - x)

module _ (x y z d w : ℕ) (o : x < y) (pos : 0 < d) where
  sides : (x * d < y * d) × ((x + y) * d ≡ x * d + y * d)
  sides = (mul-lt-mul_of_pos_right o pos, add-mul x y d)

  -- w lies not past the middle from x up to y, and z from y on
  above-order : y ≤ z → y * d ≤ z * d
  above-order h = mul-le-mul_right d h

  not_nearer_above : y ≤ z → w * 2 ≤ (x + y) * d → apart (x * d) w ≤ apart (z * d) w
  not_nearer_above h l = omega (arith, above-order h, sides.0, sides.1)

  farther_above : y ≤ z → w * 2 < (x + y) * d → apart (x * d) w < apart (z * d) w
  farther_above h l = omega (arith, above-order h, sides.0, sides.1)

  -- w lies not before the middle from y down to x, and z from x down
  below_order : z ≤ x → z * d ≤ x * d
  below_order h = mul-le-mul_right d h

  not_nearer_below : z ≤ x → (x + y) * d ≤ w * 2 → apart (y * d) w ≤ apart (z * d) w
  not_nearer_below h l = omega (arith, below_order h, sides.0, sides.1)

  farther_below : z ≤ x → (x + y) * d < w * 2 → apart (y * d) w < apart (z * d) w
  farther_below h l = omega (arith, below_order h, sides.0, sides.1)

loose : (e : Bool) (x y : ℕ) → up_to e x y ≡ true → x ≤ y
loose true x y h = leb-true x y h
loose false x y h = omega (arith, ltb-true x y h)

-- ---- the double with the bits b against every other
module _ (b d w : ℕ) (pos : 0 < d) (e : Bool) (down : up_to e ((value (b - 1) + value b) * d) (w * 2) ≡ true) (up : up_to e (w * 2) ((value b + value (b + 1)) * d) ≡ true) where
  abbrev Better : ℕ → Type 0
  Better c = (apart (value b * d) w ≤ apart (value c * d) w) × (apart (value c * d) w ≡ apart (value b * d) w → (c ≡ b) ⊎ (e ≡ true))

  than_above : (c : ℕ) → b + 1 ≤ c → Better c
  than_above c h =
      let o = value-order (b + 1) c h in (
        not_nearer_above (value b) (value (b + 1)) (value c) d w (value-rises b) pos o (loose e (w * 2) ((value b + value (b + 1)) * d) up),
        λ q. go e up q o,
      )
    where
      go : (e : Bool) → up_to e (w * 2) ((value b + value (b + 1)) * d) ≡ true → apart (value c * d) w ≡ apart (value b * d) w → value (b + 1) ≤ value c → (c ≡ b) ⊎ (e ≡ true)
      go true t q o = inr refl
      go false t q o = absurd (let f = farther_above (value b) (value (b + 1)) (value c) d w (value-rises b) pos o (ltb-true (w * 2) ((value b + value (b + 1)) * d) t) in let n : ⊥ = omega (arith, f, q) in n)

  than_below : (c : ℕ) → c + 1 ≤ b → Better c
  than_below c h =
      let o = value-order c (b - 1) (omega arith) in
      let s : b - 1 + 1 ≡ b = omega arith in
      let r : value (b - 1) < value b = rw s at (value-rises (b - 1)) in (
        not_nearer_below (value (b - 1)) (value b) (value c) d w r pos o (loose e ((value (b - 1) + value b) * d) (w * 2) down),
        λ q. go e down q o r,
      )
    where
      go : (e : Bool) → up_to e ((value (b - 1) + value b) * d) (w * 2) ≡ true → apart (value c * d) w ≡ apart (value b * d) w → value c ≤ value (b - 1) → value (b - 1) < value b → (c ≡ b) ⊎ (e ≡ true)
      go true t q o r = inr refl
      go false t q o r = absurd (let f = farther_below (value (b - 1)) (value b) (value c) d w r pos o (ltb-true ((value (b - 1) + value b) * d) (w * 2) t) in let n : ⊥ = omega (arith, f, q) in n)

  than_any : (c : ℕ) → Better c
  than_any c = go (ltb b c) refl (ltb c b) refl
    where
      same : c ≡ b → Better c
      same q = (rw q (omega arith), λ r. inl q)

      go : (s : Bool) → ltb b c ≡ s → (t : Bool) → ltb c b ≡ t → Better c
      go true h t k = than_above c (omega (arith, ltb-true b c h))
      go false h true k = than_below c (omega (arith, ltb-true c b k))
      go false h false k = same (omega (arith, ltb-false b c h, ltb-false c b k))

twice : (n p : ℕ) → 2 * n * p ≡ n * p * 2
twice n p = mul_right_comm 2 n p ∙ mul_comm (2 * p) n ∙ ap (λ (q : ℕ). n * q) (mul_comm 2 p) ∙ sym (mul_assoc n p 2)

-- over any unit p, of which 2 ^ 1074 is one: nothing here computes it
module _ (b n d p : ℕ) (pos : 0 < d) where
  abbrev middle : ℕ
  middle = 2 * n * p

  by_test : (up_to (eqb (b % 2) 0) ((value (b - 1) + value b) * d) middle && up_to (eqb (b % 2) 0) middle ((value b + value (b + 1)) * d)) ≡ true
      → (c : ℕ) → (apart (value b * d) (n * p) ≤ apart (value c * d) (n * p)) × (apart (value c * d) (n * p) ≡ apart (value b * d) (n * p) → (c ≡ b) ⊎ (b % 2 ≡ 0))
  by_test h c =
      let both = both_true (up_to (eqb (b % 2) 0) ((value (b - 1) + value b) * d) middle) (up_to (eqb (b % 2) 0) middle ((value b + value (b + 1)) * d)) h in
      let w = than_any b d (n * p) pos (eqb (b % 2) 0) (rw (twice n p) at both.0) (rw (twice n p) at both.1) c in
      (w.0, λ q. even (w.1 q))
    where
      even : (c ≡ b) ⊎ (eqb (b % 2) 0 ≡ true) → (c ≡ b) ⊎ (b % 2 ≡ 0)
      even (inl q) = inl q
      even (inr q) = inr (eqb-true (b % 2) 0 q)

pub nearest_of_all : (b n d : ℕ) → 0 < d → is_nearest b n d ≡ true → Nearest b n d
unfolding is_nearest
nearest_of_all b n d pos h = record { none_nearer = λ c. (by_test b n d (2 ^ 1074) pos h c).0; tie_to_even = λ c. (by_test b n d (2 ^ 1074) pos h c).1 }
