-- A fraction that is rounded: what it can be, its sign, and its size; and the size of a sum and of a product. Assumes nothing.
use Rattle.std.proofs.Common.{◌≡◌, ℕ, zero, suc, ◌+◌, ◌-◌, ◌*◌, ◌^◌, ◌<◌, ◌≤◌, Bool, true, false, ◌&&◌, ◌||◌, T, eqb, ltb, ℤ, sym, refl, ap, ◌∙◌, subst, true≢false, le_trans, le_of_eq, mul-le-mul_right, zero-lt-suc, mul_assoc, mul_comm, add-mul, mul-le-mul, mul-pos, mul-one, mul_right_comm, le_of_mul-le-mul_right, arith, eqb→eq, ltb→lt}
use mathlib.Core.Bool.{beq}
use native.Mathlib.Nat.{mul-mul-mul_comm}
use lib.Ieee.{Format, prec, emax, low, Float, nan, inf, fin, up, down, unlike, odd, units, round, neg, sum, add, mul, lt, eq, le}
use lib.Ieee.Fits.{down_pos, round_is}
use lib.Ieee.Exact.{HasValue}
use lib.Ieee.Order.{round_mono}
use Rattle.ranged1d.proofs.Bools.{chosen}
use Rattle.rounding.specs.Within.{AtMost}
use Rattle.rounding.proofs.Signs.{round-neg}

-- what holds of every finite number of a sign and of the infinity of that sign holds of a rounded fraction
module _ (P : Float → Type 0) (f : Format) (s : Bool) (finite : (m : ℕ) (e : ℤ) → P (fin s m e)) (infinite : P (inf s)) where
  odd_is : (d q k l : ℕ) → P (odd d s q k l)
  unfolding odd
  odd_is d zero k l = finite _ _
  odd_is d (suc q) k l = finite _ _

  units_are : (q k : ℕ) → P (units f s q k)
  unfolding units
  units_are q k = chosen P (ltb (q * 2 ^ k) (2 ^ (low f + suc (emax f)))) (odd_is (suc (prec f)) q k (low f)) infinite

  pub rounded : (n d : ℕ) → P (round f s n d)
  rounded n d = subst P (sym (round_is f s n d)) (units_are _ _)

pub small_neg : (C : ℕ) (x : Float) → AtMost C x → AtMost C (neg x)
unfolding neg
small_neg C nan w = elim w [ ]
small_neg C (inf _) w = elim w [ ]
small_neg C (fin s m e) w = w

-- its sign is kept
abbrev pub Plus : Float → Type 0
Plus nan = ⊥
Plus (inf s) = s ≡ false
Plus (fin s m e) = s ≡ false

pub plus-round : (f : Format) (n d : ℕ) → Plus (round f false n d)
plus-round f = rounded Plus f false (λ m e. refl) refl

or_le : (x y : ℕ) (b : Bool) → T (ltb x y || (eqb x y && b)) → x ≤ y
or_le x y b t = go (ltb x y) (eqb x y) (ltb→lt x y) (eqb→eq x y) t
  where
    go : (p q : Bool) → (T p → x < y) → (T q → x ≡ y) → T (p || (q && b)) → x ≤ y
    go true q f g t = let h = f tt in omega arith
    go false true f g t = let h = g tt in omega arith
    go false false f g t = absurd t

under : (C : ℕ) (x y : Float) → Plus x → HasValue y false C 1 → T (le x y) → AtMost C x
unfolding le lt eq
under C (inf true) (fin u n d) s v t = absurd (true≢false s)
under C (inf false) (fin u n d) s v t = absurd t
under C (fin true m e) (fin u n d) s v t = absurd (true≢false s)
under C (fin false m e) (fin true n d) s v t = absurd (true≢false v.0)
under C nan y s v t = elim s [ ]
under C (inf false) nan s v t = elim v [ ]
under C (inf false) (inf _) s v t = elim v [ ]
under C (inf true) nan s v t = elim v [ ]
under C (inf true) (inf _) s v t = elim v [ ]
under C (fin false m e) nan s v t = elim v [ ]
under C (fin false m e) (inf _) s v t = elim v [ ]
under C (fin true m e) nan s v t = elim v [ ]
under C (fin true m e) (inf _) s v t = elim v [ ]
under C (fin false m e) (fin false n d) s v t =
    let l : m * up e * down d ≤ n * up d * down e = or_le (m * up e * down d) (n * up d * down e) _ t in
    let q : n * up d * down e ≡ C * down e * down d = ap (λ (z : ℕ). z * down e) (sym (mul-one (n * up d)) ∙ v.1) ∙ mul_right_comm C (down d) (down e) in
    le_of_mul-le-mul_right (le_trans l (le_of_eq q)) (down_pos d)

module _ (f : Format) (C : ℕ) (exact : HasValue (round f false C 1) false C 1) where
  above_zero : (n d : ℕ) → 0 < d → n ≤ C * d → AtMost C (round f false n d)
  above_zero n d p h = under C (round f false n d) (round f false C 1) (plus-round f n d) exact (round_mono f n d C 1 p (zero-lt-suc 0) (rw (mul-one n) h))

  pub round_small : (s : Bool) (n d : ℕ) → 0 < d → n ≤ C * d → AtMost C (round f s n d)
  round_small false n d p h = above_zero n d p h
  round_small true n d p h = subst (AtMost C) (sym (round-neg f false n d)) (small_neg C (round f false n d) (above_zero n d p h))

  sum_small : (s : Bool) (a : ℕ) (t : Bool) (b c : ℕ) → 0 < c → a + b ≤ C * c → AtMost C (sum f s a t b c)
  unfolding sum
  sum_small s a t b c p h =
      chosen (AtMost C) (beq s t) (round_small s (a + b) c p h)
      (chosen (AtMost C) (ltb a b) (round_small t (b - a) c p (omega arith)) (round_small (s && ltb b a) (a - b) c p (omega arith)))

  -- ---- the operations
  pub add_small : (A B : ℕ) (x y : Float) → A + B ≤ C → AtMost A x → AtMost B y → AtMost C (add f x y)
  unfolding add
  add_small A B nan y h v w = elim v [ ]
  add_small A B (inf _) y h v w = elim v [ ]
  add_small A B (fin s m e) nan h v w = elim w [ ]
  add_small A B (fin s m e) (inf _) h v w = elim w [ ]
  add_small A B (fin s m e) (fin t n d) h v w =
      let c = down e * down d in
      let a : m * up e * down d ≤ A * c = le_trans (mul-le-mul_right (down d) v) (le_of_eq (mul_assoc A (down e) (down d))) in
      let b : n * up d * down e ≤ B * c = le_trans (mul-le-mul_right (down e) w) (le_of_eq (mul_assoc B (down d) (down e) ∙ ap (λ (k : ℕ). B * k) (mul_comm (down d) (down e)))) in
      let l : (A + B) * c ≤ C * c = mul-le-mul_right c h in
      sum_small s (m * up e * down d) t (n * up d * down e) c (mul-pos (down_pos e) (down_pos d)) (omega (arith, add-mul A B c))

  pub mul_small : (A B : ℕ) (x y : Float) → A * B ≤ C → AtMost A x → AtMost B y → AtMost C (mul f x y)
  unfolding mul
  mul_small A B nan y h v w = elim v [ ]
  mul_small A B (inf _) y h v w = elim v [ ]
  mul_small A B (fin s m e) nan h v w = elim w [ ]
  mul_small A B (fin s m e) (inf _) h v w = elim w [ ]
  mul_small A B (fin s m e) (fin t n d) h v w =
      let c = down e * down d in
      let l : m * up e * (n * up d) ≤ A * down e * (B * down d) = mul-le-mul v w in
      let q : A * down e * (B * down d) ≡ A * B * c = mul-mul-mul_comm A (down e) B (down d) in
      round_small (unlike s t) (m * up e * (n * up d)) c (mul-pos (down_pos e) (down_pos d)) (le_trans l (le_trans (le_of_eq q) (mul-le-mul_right c h)))
