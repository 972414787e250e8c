-- The decade: the powers rise, so that a power not above x has none above x before it; what the search by halves asks of the last one. Assumes nothing.
use mathlib.Core.Path.{◌≡◌, refl, sym, ap, ◌∙◌}
use mathlib.Core.Bool.{Bool, true, false, true≢false, cond}
use mathlib.Core.List.{List}
use Prim.Native.Nat.{ℕ, zero, suc, ◌+◌, ◌-◌, ◌≤◌, ◌<◌}
use native.Mathlib.Nat.{add-suc, add-zero, zero-add}
use native.Mathlib.Omega.{arith}
use lib.Dec.{T}
use lib.ListN.{get_or, length, take, drop}
use lib.Seq.{get_or-take, get_or-drop}
use lib.Ieee.{Float, nan, inf, fin, lt, eq, le}
use lib.Ieee.Bits.{is_true}
use lib.Ieee.Positive.{positive, above, above_of_le, le_trans_positive, cross→le}
use Rattle.std.specs.List.Sorted.{IsPartitionedBy, IsPartitionPoint}
use Rattle.std.proofs.Common.{zero-le}
use Rattle.std.proofs.lemmas.List.{get_or_default}
use Rattle.decades.specs.Powers.{power}
use Rattle.decades.specs.Decade.{last_of, reached, decade_index, decade_of}
use Rattle.decades.specs.Steps.{Holds}
use Rattle.decades.proofs.Table.{powers, entry, above_zero, next_greater}

-- ---- the order of doubles above zero
le_any : (x z : Float) → T (positive x) → T (above z) → (T (positive z) → T (le x z)) → T (le x z)
unfolding le lt eq
le_any nan z p a h = absurd p
le_any (inf s) z p a h = absurd p
le_any (fin true m e) z p a h = absurd p
le_any (fin false m e) nan p a h = absurd a
le_any (fin false m e) (inf true) p a h = absurd a
le_any (fin false m e) (inf false) p a h = tt
le_any (fin false m e) (fin true n d) p a h = absurd a
le_any (fin false m e) (fin false n d) p a h = h a

le_through : (x y z : Float) → T (positive x) → T (positive y) → T (le x y) → T (le y z) → T (le x z)
le_through x y z p q h k = le_any x z p (above_of_le y z q k) (λ r. le_trans_positive x y z p q r h k)

lt_le : (x y : Float) → lt x y ≡ true → T (le x y)
unfolding le
lt_le x y h = rw h tt

le_self : (x : Float) → T (positive x) → T (le x x)
le_self x p = cross→le x x p p (omega arith)

-- ---- the powers rise
pub rise : (k n : ℕ) → k + n < 616 → T (le (power k) (power (k + n)))
rise k zero h = rw add-zero (le_self (power k) (above_zero k (omega arith)))
rise k (suc n) h =
    rw add-suc
    (le_through (power k) (power (k + n)) (power (suc (k + n))) (above_zero k (omega arith)) (above_zero (k + n) (omega arith)) (rise k n (omega arith))
    (lt_le (power (k + n)) (power (suc (k + n))) (next_greater (k + n) (omega arith))))

pub rise_to : (k i : ℕ) → k ≤ i → i < 616 → T (le (power k) (power i))
rise_to k i h l = let e : k + (i - k) ≡ i = omega arith in rw e at (rise k (i - k) (omega arith))

module _ (x : Float) where
  pub reached-before : (k i : ℕ) → k ≤ i → i < 616 → reached x i ≡ true → reached x k ≡ true
  reached-before k i h l e = is_true (reached x k) (le_through (power k) (power i) x (above_zero k (omega arith)) (above_zero i l) (rise_to k i h l) (rw e tt))

  pub unreached_after : (k i : ℕ) → k ≤ i → i < 616 → reached x k ≡ false → reached x i ≡ false
  unreached_after k i h l e = go (reached x i) refl
    where
      go : (b : Bool) → reached x i ≡ b → b ≡ false
      go false q = refl
      go true q = absurd (true≢false (sym (reached-before k i h l q) ∙ e))

-- ---- the last that passes
module _ (p : ℕ → Bool) where
  pub last_skips : (k n : ℕ) → ((i : ℕ) → k ≤ i → i < k + n → p i ≡ false) → last_of p (k + n) ≡ last_of p k
  unfolding last_of
  last_skips k zero h = rw add-zero
  last_skips k (suc n) h = rw (add-suc, h (k + n) (omega arith) (omega arith)) (last_skips k n (λ i l u. h i l (omega arith)))

  pub last-first : last_of p 1 ≡ 0
  unfolding last_of
  last-first = go (p 0)
    where
      go : (b : Bool) → ◌≡◌ {A = ℕ} (cond b 0 0) 0
      go true = refl
      go false = refl

  pub last_is : (k : ℕ) → p k ≡ true → last_of p (suc k) ≡ k
  unfolding last_of
  last_is k e = rw e

  -- it is among those that were looked at
  pub last-inside : (n : ℕ) → last_of p (suc n) < suc n
  unfolding last_of
  last-inside zero = rw last-first (omega arith)
  last-inside (suc n) = go (p (suc n)) (last-inside n)
    where
      go : (b : Bool) → last_of p (suc n) < suc n → cond b (suc n) (last_of p (suc n)) < suc (suc n)
      go true h = omega arith
      go false h = omega arith

-- ---- what the search by halves is given: from entry k on none is reached
module _ (x : Float) (k n : ℕ) (h : k < n) (l : n ≤ 616) where
  pub below_next : decade_index x ≡ last_of (reached x) n → reached x k ≡ false → decade_index x ≡ last_of (reached x) k
  below_next e f =
      let s : k + (n - k) ≡ n = omega arith in
      e ∙ rw s at (last_skips (reached x) k (n - k) (λ i a b. unreached_after x k i a (omega arith) f))

-- ---- and what it gives: the part of the table is parted by the test, and the last entry before the point is the decade
module _ (l : List Float) (i : ℕ) (x : Float) (h : Holds l i x) where
  -- an entry of the part, whatever the default
  part_entry : (k : ℕ) (d : Float) → k < length l → le (get_or l k d) x ≡ reached x (i + k)
  part_entry k d s = ap (λ (y : Float). le y x) (get_or_default l k d nan s ∙ h.entries k s)

  pub parted : IsPartitionedBy (λ (y : Float). le y x) l
  parted k j d s t e =
      let in_table : i + j < 616 = omega (arith, h.inside) in
      part_entry k d (omega arith) ∙ reached-before x (i + k) (i + j) (omega arith) in_table (sym (part_entry j d t) ∙ e)

  module _ (n : ℕ) (w : n ≤ length l) (at : IsPartitionPoint (λ (y : Float). le y x ≡ true) (λ (y : Float). le y x ≡ false) l n) where
    -- the entry before the point is the last that is reached, or, where none is, the first
    last_at : (n : ℕ) → n ≤ length l → ((k : ℕ) → k < n → reached x (i + k) ≡ true) → last_of (reached x) (suc (i + (n - 1))) ≡ i + (n - 1)
    last_at zero w g = rw (add-zero i) h.begins
    last_at (suc n) w g = let e : suc n - 1 ≡ n = omega arith in rw e (last_is (reached x) (i + n) (g n (omega arith)))

    behind : (k : ℕ) → suc (i + (n - 1)) ≤ k → k < i + length l → reached x k ≡ false
    behind k a b =
        let j : ℕ = k - i in
        let s : i + j ≡ k = omega arith in
        rw s at (sym (part_entry j nan (omega arith)) ∙ at.1 j nan (omega arith) (omega arith))

    pub decade_before : decade_index x ≡ i + (n - 1)
    decade_before =
        let m : ℕ = suc (i + (n - 1)) in
        let s : m + (i + length l - m) ≡ i + length l = omega (arith, h.some) in
        let none : (k : ℕ) → m ≤ k → k < m + (i + length l - m) → reached x k ≡ false = λ k a b. behind k (omega arith) (omega arith) in
        h.ends ∙ rw s at (last_skips (reached x) m (i + length l - m) none) ∙ last_at n w (λ k a. sym (part_entry k nan (omega arith)) ∙ at.0 k nan zero-le a)

pub from_all : (x : Float) → decade_index x ≡ last_of (reached x) 616
unfolding decade_index
from_all x = refl

-- what it begins with: the whole table, or its middle, of which x has reached the first entry and not the one behind the last
pub in_all : (x : Float) → Holds powers 0 x
in_all x = record { some = omega arith; inside = omega arith; entries = λ k h. entry k h ∙ ap power (sym (zero-add k)); ends = from_all x; begins = last-first (reached x) }

abbrev pub middle : List Float
middle = take 10 (drop 304 powers)

module _ (x : Float) where
  by_entry : (k : ℕ) → k < 616 → {b : Bool} → le (get_or powers k nan) x ≡ b → reached x k ≡ b
  by_entry k h e = ap (λ (p : Float). le p x) (sym (entry k h)) ∙ e

  pub in_middle : le (get_or powers 304 nan) x ≡ true → le (get_or powers 314 nan) x ≡ false → Holds middle 304 x
  in_middle r n = record {
    some = omega arith;
    inside = omega arith;
    entries = λ k h. get_or-take 10 (drop 304 powers) k nan h ∙ get_or-drop 304 powers k nan ∙ entry (304 + k) (omega arith);
    ends = below_next x 314 616 (omega arith) (omega arith) (from_all x) (by_entry 314 (omega arith) n);
    begins = last_is (reached x) 304 (by_entry 304 (omega arith) r);
  }

-- the decade by its index
pub decade_by : (x : Float) (k : ℕ) (v : Float) → decade_index x ≡ k → v ≡ power k → record { index = k; value = v } ≡ decade_of x
unfolding decade_of
decade_by x k v e h = rw (e, h)

pub decade_inside : (x : Float) → (decade_of x).index < 616
unfolding decade_of decade_index
decade_inside x = last-inside (reached x) 615

-- ---- 02 (d): the decade is the greatest power not above x, where there is one
pub last_found : (p : ℕ → Bool) (k n : ℕ) → k < n → p k ≡ true → (p (last_of p n) ≡ true) × (last_of p n < n) × (k ≤ last_of p n)
unfolding last_of
last_found p k zero h e = elim h [ ]
last_found p k (suc n) h e = go (p n) refl (λ l. last_found p k n l e)
  where
    go : (b : Bool) → p n ≡ b → (k < n → (p (last_of p n) ≡ true) × (last_of p n < n) × (k ≤ last_of p n))
        → (p (cond b n (last_of p n)) ≡ true) × (cond b n (last_of p n) < suc n) × (k ≤ cond b n (last_of p n))
    go true q rest = (q, omega arith, omega arith)
    go false q rest = let w = rest (apart k n h (λ s. true≢false (sym e ∙ ap p s ∙ q))) in (w.0, omega arith, w.2)
      where
        apart : (k n : ℕ) → k < suc n → (k ≡ n → ⊥) → k < n
        apart k n h d = omega arith

pub greatest : (x : Float) (k : ℕ) → k < 616 → reached x k ≡ true → (reached x (decade_index x) ≡ true) × (decade_index x < 616) × T (le (power k) (power (decade_index x)))
unfolding decade_index
greatest x k h e = let w = last_found (reached x) k 616 h e in (w.0, w.1, rise_to k (last_of (reached x) 616) w.2 w.1)
