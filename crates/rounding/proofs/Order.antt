-- The whole numbers of `whole_of` in the order of the integers: next to x on the side that the way says, and no smaller for a larger x. Assumes nothing.
use Rattle.std.proofs.Common.{◌≡◌, ℕ, zero, suc, ◌+◌, ◌-◌, ◌*◌, ◌<◌, ◌≤◌, Bool, true, false, ℤ, pos, negsuc, ◌+ℤ◌, ◌-ℤ◌, ◌*ℤ◌, neg_ℤ, nat_abs, ◌≤ℤ◌, ◌<ℤ◌, sym, refl, ap, ◌∙◌, suc-mul, add-mul, lt_of_mul-lt-mul_right, one-mul, zero-mul, arith, le→leb, lt→ltb, ltb-false}
use lib.IntN.{+ℤ_one, neg_ℤ-+ℤ}
use lib.Ieee.{fin, up, down, lt}
use lib.Ieee.Fits.{down_pos}
use Rattle.ranged1d.proofs.Whole.{neg-far, sub-size, yes_le, yes_lt, neg-order, neg_below, below_all}
use Rattle.rounding.specs.Integral.{Way, floors, ceils, halves, sized}
use Rattle.rounding.specs.Within.{signed, whole_of}
use Rattle.rounding.proofs.Quotients.{Is, Near, sized_of, sized_le, sized_mono}
use Rattle.rounding.proofs.Steps.{one_less, one_more}

-- ---- ±a in order
minus_le : (a b : ℕ) → b ≤ a → neg_ℤ (pos a) ≤ℤ neg_ℤ (pos b)
minus_le a b h = yes_le (neg-order a b h)

minus_lt : (a b : ℕ) → b < a → neg_ℤ (pos a) <ℤ neg_ℤ (pos b)
minus_lt a b h = yes_lt (neg_below a b h)

plus_le : (a b : ℕ) → a ≤ b → pos a ≤ℤ pos b
plus_le a b h = record { le = le→leb a b h }

plus_lt : (a b : ℕ) → a < b → pos a <ℤ pos b
plus_lt a b h = record { lt = lt→ltb a b h }

minus_plus : (a b : ℕ) → neg_ℤ (pos a) ≤ℤ pos b
minus_plus a b = yes_le (below_all a b)

minus_plus_lt : (a b : ℕ) → 0 < a + b → neg_ℤ (pos a) <ℤ pos b
minus_plus_lt zero b h = plus_lt 0 b (omega arith)
minus_plus_lt (suc a) b h = record { lt = tt }

-- ---- ±k times d, and one more
signed_mul : (s : Bool) (k d : ℕ) → signed s k *ℤ pos d ≡ signed s (k * d)
signed_mul false k d = refl
signed_mul true zero d = rw (zero-mul d)
signed_mul true (suc k) d = refl

more : (j : ℕ) → neg_ℤ (pos (suc j)) +ℤ pos 1 ≡ neg_ℤ (pos j)
more zero = +ℤ_one (negsuc 0)
more (suc j) = +ℤ_one (negsuc (suc j))

-- ---- floor ≤ x < floor + 1 and ceil - 1 < x ≤ ceil, for x = ±n / d
floor_by : (s : Bool) (n d k : ℕ) → 0 < d → Is floors s n d k → ((signed s k *ℤ pos d) ≤ℤ signed s n) × (signed s n <ℤ ((signed s k +ℤ pos 1) *ℤ pos d))
floor_by false n d k p h = (plus_le (k * d) n h.0, plus_lt n ((k + 1) * d) (rw (add-mul k 1 d, one-mul d) h.1))
floor_by true n d zero p h =
    (rw (signed_mul true zero d) (minus_le (0 * d) n h.0), minus_plus_lt n (1 * d) (omega arith))
floor_by true n d (suc j) p h =
    (minus_le (suc j * d) n h.0, rw (more j, signed_mul true j d) (minus_lt n (j * d) (omega (arith, suc-mul j d))))

ceil_by : (s : Bool) (n d k : ℕ) → 0 < d → Is ceils s n d k → (((signed s k -ℤ pos 1) *ℤ pos d) <ℤ signed s n) × (signed s n ≤ℤ (signed s k *ℤ pos d))
ceil_by false n d zero p h = (minus_plus_lt (1 * d) n (omega arith), plus_le n (0 * d) h.0)
ceil_by false n d (suc j) p h = (rw (one_less j) (plus_lt (j * d) n (omega (arith, suc-mul j d))), plus_le n (suc j * d) h.0)
ceil_by true n d k p h =
    (rw (one_more k) (minus_lt (suc k * d) n (omega (arith, suc-mul k d))), rw (signed_mul true k d) (minus_le n (k * d) h.0))

-- ---- |round - x| ≤ 1 / 2
apart : (s : Bool) (a b : ℕ) → nat_abs (signed s a -ℤ signed s b) ≡ a - b + (b - a)
apart false a b = sub-size a b
apart true a b = ap nat_abs (sym (neg_ℤ-+ℤ (pos a) (neg_ℤ (pos b)))) ∙ neg-far (pos a -ℤ pos b) ∙ sub-size a b

near_by : (s : Bool) (n d k : ℕ) → Near n d k → 2 * nat_abs (signed s k *ℤ pos d -ℤ signed s n) ≤ d
near_by s n d k h = rw (signed_mul s k d, apart s (k * d) n) (omega arith)

module _ (s : Bool) (m : ℕ) (e : ℤ) where
  -- floor ≤ x < floor + 1
  pub floor-next : ((whole_of floors (fin s m e) *ℤ pos (down e)) ≤ℤ signed s (m * up e)) × (signed s (m * up e) <ℤ ((whole_of floors (fin s m e) +ℤ pos 1) *ℤ pos (down e)))
  unfolding whole_of
  floor-next = floor_by s (m * up e) (down e) (sized floors s (m * up e) (down e)) (down_pos e) (sized_of floors s (m * up e) (down e) (down_pos e))

  -- ceil - 1 < x ≤ ceil
  pub ceil-next : (((whole_of ceils (fin s m e) -ℤ pos 1) *ℤ pos (down e)) <ℤ signed s (m * up e)) × (signed s (m * up e) ≤ℤ (whole_of ceils (fin s m e) *ℤ pos (down e)))
  unfolding whole_of
  ceil-next = ceil_by s (m * up e) (down e) (sized ceils s (m * up e) (down e)) (down_pos e) (sized_of ceils s (m * up e) (down e) (down_pos e))

  -- |round - x| ≤ 1 / 2
  pub round-next : 2 * nat_abs (whole_of halves (fin s m e) *ℤ pos (down e) -ℤ signed s (m * up e)) ≤ down e
  unfolding whole_of
  round-next = near_by s (m * up e) (down e) (sized halves s (m * up e) (down e)) (sized_of halves s (m * up e) (down e) (down_pos e))

-- ---- in the order of x
none-sized : (w : Way) (s : Bool) (n d : ℕ) → 0 < d → n ≡ 0 → sized w s n d ≡ 0
none-sized w s n d p h = let l = sized_le w s n d 0 p (rw (zero-mul d) (omega arith)) in omega arith

pub eq_zero : (a c : ℕ) → 0 < c → a * c ≡ 0 → a ≡ 0
eq_zero a c p h = let l : a < 1 = lt_of_mul-lt-mul_right c (rw (one-mul c) (omega arith)) in omega arith

-- a y that is not below x, both finite
pub whole_mono : (w : Way) (s : Bool) (m : ℕ) (e : ℤ) (t : Bool) (n : ℕ) (g : ℤ) → lt (fin t n g) (fin s m e) ≡ false → whole_of w (fin s m e) ≤ℤ whole_of w (fin t n g)
unfolding whole_of lt
whole_mono w false m e false n g h =
    plus_le (sized w false (m * up e) (down e)) (sized w false (n * up g) (down g))
    (sized_mono w false (m * up e) (down e) (n * up g) (down g) (down_pos e) (down_pos g) (ltb-false (n * up g * down e) (m * up e * down g) h))
whole_mono w true m e true n g h =
    minus_le (sized w true (m * up e) (down e)) (sized w true (n * up g) (down g))
    (sized_mono w true (n * up g) (down g) (m * up e) (down e) (down_pos g) (down_pos e) (ltb-false (m * up e * down g) (n * up g * down e) h))
whole_mono w true m e false n g h = minus_plus (sized w true (m * up e) (down e)) (sized w false (n * up g) (down g))
whole_mono w false m e true n g h =
    let l = ltb-false 0 (n * up g * down e + m * up e * down g) h in
    let a : m * up e ≡ 0 = eq_zero (m * up e) (down g) (down_pos g) (omega arith) in
    let b : n * up g ≡ 0 = eq_zero (n * up g) (down e) (down_pos e) (omega arith) in
    rw (none-sized w false (m * up e) (down e) (down_pos e) a, none-sized w true (n * up g) (down g) (down_pos g) b) (record { le = tt })
