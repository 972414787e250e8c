-- The margin of a segment: it lies between 0 and the film's length, so that the narrowed limits lie between the film's; and it turns with the
-- film. Assumes nothing.
use Rattle.std.proofs.Common.{◌≡◌, ℕ, zero, suc, ◌+◌, ◌-◌, ◌*◌, ◌≤◌, Bool, true, false, ℤ, pos, negsuc, ◌+ℤ◌, ◌-ℤ◌, neg_ℤ, nat_abs, sym, refl, ap, ◌∙◌, subst, true≢false, le_trans, mul-pos, zero-mul, le-mul_of_pos_right, arith, w32, SFits, ltb-true, le-leb}
use lib.Dec.{eqb-suc-zero}
use lib.IntN.{neg_ℤ-neg_ℤ, neg_ℤ-+ℤ, +ℤ-neg_ℤ_cancel, +ℤ_assoc, +ℤ_idl}
use lib.Ieee.{Float, nan, inf, fin, binary32, up, down, unlike, div, of_int}
use lib.Ieee.Fits.{down_pos, up_pos}
use lib.Ieee.Exact.{HasValue}
use lib.Ieee.Back.{round_whole}
use lib.Signed.{lt_z}
use Rattle.ranged1d.specs.Admitted.{limit_admitted}
use Rattle.ranged1d.specs.declared.Limit.{Limit}
use Rattle.ranged1d.proofs.Whole.{add-far, neg-far, quotient-far, length-near, start_to, near_on, fits32}
use Rattle.rounding.specs.Integral.{halves, sized}
use Rattle.rounding.specs.Within.{whole_of, AtMost}
use Rattle.rounding.proofs.Quotients.{sized_le}
use Rattle.rounding.proofs.Signs.{whole_neg}
use Rattle.real.specs.Mirror.{mirrored}
use Rattle.real.proofs.Cases.{near-limits}
use Rattle.real.proofs.Readings.{length-neg}
use Rattle.real.proofs.Signs.{zero_of, zero_one, round_zero, div-neg, int_neg}
use Rattle.rounding.proofs.Small.{Plus}
use Rattle.real.proofs.Sizes.{plus-div, small_quotient}
use Rattle.segmented.specs.Axes.{most_values}
use Rattle.segmented.specs.Segments.{half, shared, margin, narrowed}

-- l ÷ n in f32, and its nearest whole number
abbrev pub quotient : ℕ → ℤ → Float
quotient n l = div binary32 (of_int binary32 l) (of_int binary32 (pos n))

abbrev share_of : ℕ → ℤ → ℤ
share_of n l = whole_of halves (quotient n l)

pub margin_is : (n : ℕ) (limit : Limit) → margin n limit ≡ share_of n (limit.1 -ℤ limit.0)
unfolding margin shared
margin_is n limit = refl

-- ---- negation
-- nothing, shared among however many
zero_whole : (s : Bool) → whole_of halves (zero_of s) ≡ pos 0
unfolding whole_of
zero_whole true = refl
zero_whole false = refl

zero_share : (s : Bool) (y : Float) → whole_of halves (div binary32 (zero_of s) y) ≡ pos 0
unfolding div whole_of
zero_share s nan = refl
zero_share s (inf t) = zero_whole (unlike s t)
zero_share s (fin t zero d) = refl
zero_share s (fin t (suc n) d) = rw (eqb-suc-zero n) (ap (whole_of halves) (round_zero binary32 (unlike s t) (0 * down d) (suc n * up d * 1) (mul-pos (mul-pos (omega arith) (up_pos d)) (omega arith)) (zero-mul (down d))) ∙ zero_whole (unlike s t))

pub no_share : (n : ℕ) → share_of n (pos 0) ≡ pos 0
unfolding of_int
no_share n = ap (λ x. whole_of halves (div binary32 x (of_int binary32 (pos n)))) (zero_one binary32 false) ∙ zero_share false (of_int binary32 (pos n))

turned : (n : ℕ) (l : ℤ) → (l ≡ pos 0 → ⊥) → share_of n (neg_ℤ l) ≡ neg_ℤ (share_of n l)
turned n l h =
    ap (λ x. whole_of halves (div binary32 x (of_int binary32 (pos n)))) (int_neg binary32 l h)
    ∙ ap (whole_of halves) (div-neg binary32 (of_int binary32 l) (of_int binary32 (pos n)))
    ∙ whole_neg halves (quotient n l)

share-neg : (n : ℕ) (l : ℤ) → share_of n (neg_ℤ l) ≡ neg_ℤ (share_of n l)
share-neg n (pos zero) = no_share n ∙ sym (ap neg_ℤ (no_share n))
share-neg n (pos (suc k)) = turned n (pos (suc k)) (λ e. omega (arith, ap nat_abs e))
share-neg n (negsuc k) = turned n (negsuc k) (λ e. omega (arith, ap nat_abs e))

-- by the size of l and its sign
pub shared_below : (n : ℕ) (l : ℤ) {k : ℕ} → pos k ≡ shared n (pos (nat_abs l)) → lt_z l (pos 0) ≡ true → pos 0 -ℤ pos k ≡ shared n l
unfolding shared
shared_below n (pos j) e h = absurd (omega (arith, ltb-true j 0 h))
shared_below n (negsuc j) {k} e h = +ℤ_idl (neg_ℤ (pos k)) ∙ ap neg_ℤ e ∙ sym (share-neg n (pos (suc j)))

pub shared-above : (n : ℕ) (l : ℤ) {k : ℕ} → pos k ≡ shared n (pos (nat_abs l)) → lt_z l (pos 0) ≡ false → pos k ≡ shared n l
shared-above n (pos j) e h = e
shared-above n (negsuc j) e h = absurd (true≢false h)

pub margin-neg : (n : ℕ) (limit : Limit) → margin n (mirrored limit) ≡ neg_ℤ (margin n limit)
margin-neg n limit =
    margin_is n (mirrored limit) ∙ ap (share_of n) (length-neg limit.0 limit.1) ∙ share-neg n (limit.1 -ℤ limit.0) ∙ ap neg_ℤ (sym (margin_is n limit))

-- ---- size: a length of k is shared into parts of at most k
told : (C : ℕ) (x : Float) → Plus x → AtMost C x → (j : ℕ) × (whole_of halves x ≡ pos j) × (j ≤ C)
unfolding whole_of
told C (fin true m e) s v = absurd (true≢false s)
told C nan s v = elim s [ ]
told C (inf _) s v = elim v [ ]
told C (fin false m e) s v = (sized halves false (m * up e) (down e), refl, sized_le halves false (m * up e) (down e) C (down_pos e) v)

pub int_plus : (k : ℕ) → k ≤ 16777216 → HasValue (of_int binary32 (pos k)) false k 1
unfolding of_int
int_plus k h = round_whole binary32 false k h

module _ (n : ℕ) (some : 1 ≤ n) (few : n ≤ most_values) where
  share_pos : (k : ℕ) → k ≤ 16777216 → (j : ℕ) × (share_of n (pos k) ≡ pos j) × (j ≤ k)
  share_pos k h =
      told k (quotient n (pos k))
      (plus-div binary32 (of_int binary32 (pos k)) (of_int binary32 (pos n)) k n some (int_plus k h) (int_plus n few))
      (small_quotient binary32 k h (pos k) (pos n) h few some (le-mul_of_pos_right k some))

  -- q − margin lies between p and q, l being q − p
  upward : (p q : ℤ) (k b : ℕ) → q -ℤ p ≡ pos k → k ≤ 16777216 → nat_abs p ≤ b → nat_abs q ≤ b → nat_abs (q -ℤ share_of n (pos k)) ≤ b
  upward p q k b e h hp hq =
      let s = share_pos k h in
      let j = s.0 in
      let i = k - j in
      let end : p +ℤ pos k ≡ q = ap (λ z. p +ℤ z) (sym e) ∙ start_to p q in
      let split : p +ℤ pos k ≡ (p +ℤ pos i) +ℤ pos j = ap (λ m. p +ℤ pos m) (let w : k ≡ i + j = omega (arith, s.2) in w) ∙ sym (+ℤ_assoc p (pos i) (pos j)) in
      let is : q -ℤ share_of n (pos k) ≡ p +ℤ pos i =
      ap (λ z. q -ℤ z) s.1 ∙ ap (λ z. z -ℤ pos j) (sym end ∙ split) ∙ +ℤ-neg_ℤ_cancel (p +ℤ pos i) (pos j) in
      rw is (near_on b p i k (omega arith) hp (rw end hq))

  between : (p q l : ℤ) (b : ℕ) → q -ℤ p ≡ l → nat_abs l ≤ 16777216 → nat_abs p ≤ b → nat_abs q ≤ b → nat_abs (q -ℤ share_of n l) ≤ b
  between p q (pos k) b e h hp hq = upward p q k b e h hp hq
  between p q (negsuc k) b e h hp hq =
      let far : nat_abs (neg_ℤ q -ℤ share_of n (pos (suc k))) ≤ b =
      upward (neg_ℤ p) (neg_ℤ q) (suc k) b (length-neg p q ∙ ap neg_ℤ e) h (rw (neg-far p) hp) (rw (neg-far q) hq) in
      let is : neg_ℤ (q -ℤ share_of n (negsuc k)) ≡ neg_ℤ q -ℤ share_of n (pos (suc k)) =
      neg_ℤ-+ℤ q (neg_ℤ (share_of n (negsuc k))) ∙ ap (λ z. neg_ℤ q +ℤ neg_ℤ (neg_ℤ z)) (share-neg n (pos (suc k))) ∙ ap (λ z. neg_ℤ q +ℤ z) (neg_ℤ-neg_ℤ (neg_ℤ (share_of n (pos (suc k))))) in
      subst (λ m. m ≤ b) (ap nat_abs (sym is) ∙ neg-far (q -ℤ share_of n (negsuc k))) far

  share_small : (l : ℤ) → nat_abs l ≤ 16777216 → nat_abs (share_of n l) ≤ nat_abs l
  share_small (pos k) h = let s = share_pos k h in rw s.1 s.2
  share_small (negsuc k) h = let s = share_pos (suc k) h in rw (share-neg n (pos (suc k)), s.1, neg-far (pos s.0)) s.2

  pub shared_small : (l : ℤ) → nat_abs l ≤ 2000000 → nat_abs (shared n l) ≤ 2000000
  unfolding shared
  shared_small l h = le_trans (share_small l (omega arith)) h

-- ---- of admitted limits
module _ (n : ℕ) (limit : Limit) (admitted : limit_admitted limit ≡ true) where
  pub narrowed-admitted : 1 ≤ n → n ≤ most_values → limit_admitted (narrowed n limit) ≡ true
  narrowed-admitted some few =
      let h = near-limits limit admitted in
      let g = length-near limit admitted in
      let near : nat_abs (limit.1 -ℤ margin n limit) ≤ 1000000 =
      rw (margin_is n limit) (between n some few limit.0 limit.1 (limit.1 -ℤ limit.0) 1000000 refl (omega arith) h.0 h.1) in
      rw (le-leb (nat_abs limit.0) 1000000 h.0, le-leb (nat_abs (limit.1 -ℤ margin n limit)) 1000000 near)

-- ---- of limits that were narrowed
module _ (n : ℕ) (limit : Limit) {within : Limit} (e : within ≡ narrowed n limit) where
  -- they tell the margin
  pub moved_by : limit.1 -ℤ within.1 ≡ margin n limit
  moved_by =
      let q = limit.1 in
      let k = margin n limit in
      ap (λ (w : Limit). q -ℤ w.1) e ∙ ap (λ z. z -ℤ (q -ℤ k)) (sym (start_to k q)) ∙ +ℤ-neg_ℤ_cancel k (q -ℤ k)

-- ---- what fits an i32: the sum of two places, and half of one
pub sum_near : (x y : ℤ) → nat_abs x ≤ 1_001_000_000 → nat_abs y ≤ 1_001_000_000 → nat_abs (x +ℤ y) ≤ 2_002_000_000
sum_near x y hx hy = omega (arith, add-far x y, hx, hy)

pub sum_fits : (x y : ℤ) → nat_abs x ≤ 1_001_000_000 → nat_abs y ≤ 1_001_000_000 → SFits w32 (x +ℤ y)
sum_fits x y hx hy = fits32 (x +ℤ y) (omega (arith, sum_near x y hx hy))

pub half_fits : (x : ℤ) → nat_abs x ≤ 2_002_000_000 → SFits w32 (half x)
half_fits x h = fits32 (half x) (omega (arith, quotient-far x (pos 2), h))
