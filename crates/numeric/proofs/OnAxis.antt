-- 02 (a): the marks on the axis are the multiples of the step from lo to hi. Assumes nothing.
use mathlib.Core.Path.{◌≡◌, refl, sym, ap, ◌∙◌, subst}
use mathlib.Core.Bool.{Bool, true, false, cond}
use mathlib.Core.List.Memᴰ
use mathlib.Core.List.{List, [], ◌∷◌, ◌++◌, append-nil, Memᴰ}
use mathlib.Core.Logic.{◌⊎◌, inl, inr, ◌↔◌}
use Prim.Native.Nat.{ℕ, zero, suc, ◌+◌, ◌-◌, ◌*◌, ◌≤◌, ◌<◌}
use native.Mathlib.Nat.{add-mul, one-mul, mul-le-mul_right}
use native.Mathlib.Decide.{dec_le, dec_lt}
use native.Mathlib.Omega.{arith}
use borrow.Author.Tests.{leb-false}
use lib.IntN.{ℤ, pos, neg_ℤ, nat_abs, ◌+ℤ◌, ◌-ℤ◌, ◌*ℤ◌, +ℤ_assoc, +ℤ_idr, +ℤ_invr, neg_ℤ-neg_ℤ}
use lib.ListN.{get_or}
use lib.Signed.{le_z, ◌≤ℤ◌}
use Rattle.ranged1d.proofs.Whole.{not_lt, not_before, from_start, back_to_start, other_way, both_ways, neg_le, neg_times, yes_le, le_yes}
use Rattle.ranged1d.specs.Numbers.{raised}
use Rattle.numeric.specs.declared.Choice.TheVariants.{Inside}
use Rattle.numeric.specs.Marks.{low, high, distance, chosen, first_index, last_index, last_inside, how_many, list_of, multiple, multiples, no_step_for, no_step, step_for, step_of, marks_for, inside_for}
use Rattle.numeric.specs.OnAxis.{kept, IsMultiple, lies_on, OnAxis}
use Rattle.numeric.proofs.Steps.{step_pos}
use Rattle.numeric.proofs.Lists.{entry}
use Rattle.numeric.proofs.Bounds.{multiple-element}
use Rattle.numeric.proofs.Reflect.{last_of}
use Rattle.numeric.proofs.Inside.{count_by, fewer}
use Rattle.numeric.proofs.Most.{at_most}
use Rattle.numeric.proofs.Theorems.{first_not_below, first_least}

-- ---- lists by a rule: what is in them, and what a test keeps of them
mem_left : {A : Type 0} {z : A} (s t : List A) → Memᴰ z s → Memᴰ z (s ++ t)
mem_left [] t h = absurd (Memᴰ.not-nil h)
mem_left {A} {z} (x ∷ s) t h = go (Memᴰ.cases_cons h) (mem_left s t)
  where
    go : (z ≡ x) ⊎ Memᴰ z s → (Memᴰ z s → Memᴰ z (s ++ t)) → Memᴰ z (x ∷ (s ++ t))
    go (inl e) rec = Memᴰ.head e
    go (inr w) rec = Memᴰ.tail (rec w)

mem_right : {A : Type 0} {z : A} (s t : List A) → Memᴰ z t → Memᴰ z (s ++ t)
mem_right [] t h = h
mem_right (x ∷ s) t h = Memᴰ.tail (mem_right s t h)

listed : {A : Type 0} (f : ℕ → A) (n k : ℕ) → k < n → Memᴰ (f k) (list_of f n)
listed f zero k h = absurd (omega arith)
listed f (suc n) k h = go (dec_lt k n) (listed f n k)
  where
    go : Dec (k < n) → (k < n → Memᴰ (f k) (list_of f n)) → Memᴰ (f k) (list_of f n ++ (f n ∷ []))
    go (yes l) rec = mem_left (list_of f n) (f n ∷ []) (rec l)
    go (no g) rec = mem_right (list_of f n) (f n ∷ []) (Memᴰ.head (ap f (omega arith)))

which : {A : Type 0} (f : ℕ → A) (n : ℕ) {z : A} → Memᴰ z (list_of f n) → (k : ℕ) × (k < n) × (z ≡ f k)
which f zero h = absurd (Memᴰ.not-nil h)
which {A} f (suc n) {z} h = go (Memᴰ.append_cases (list_of f n) h) (which f n)
  where
    go : Memᴰ z (list_of f n) ⊎ Memᴰ z (f n ∷ []) → (Memᴰ z (list_of f n) → (k : ℕ) × (k < n) × (z ≡ f k)) → (k : ℕ) × (k < suc n) × (z ≡ f k)
    go (inl w) rec = let r = rec w in (r.0, omega (arith, r.1), r.2)
    go (inr w) rec = (n, omega arith, Memᴰ.eq_of_singleton w)

kept_append : {A : Type 0} (p : A → Bool) (s t : List A) → kept p (s ++ t) ≡ kept p s ++ kept p t
kept_append p [] t = refl
kept_append {A} p (x ∷ s) t = go (p x) (kept_append p s t)
  where
    go : (u : Bool) → kept p (s ++ t) ≡ kept p s ++ kept p t → cond u (x ∷ kept p (s ++ t)) (kept p (s ++ t)) ≡ cond u (x ∷ kept p s) (kept p s) ++ kept p t
    go true e = ap (λ (l : List A). x ∷ l) e
    go false e = e

-- a test that the first k pass, and no others
kept-first : {A : Type 0} (p : A → Bool) (f : ℕ → A) (k n : ℕ) → k ≤ n → ((i : ℕ) → i < k → p (f i) ≡ true) → ((i : ℕ) → k ≤ i → i < n → p (f i) ≡ false) → kept p (list_of f n) ≡ list_of f k
kept-first p f zero zero h yes_of no_of = refl
kept-first p f (suc k) zero h yes_of no_of = absurd (omega arith)
kept-first {A} p f k (suc n) h yes_of no_of = go (dec_le k n) (kept-first p f k n) (kept-first p f n n)
  where
    go : Dec (k ≤ n)
        → (k ≤ n → ((i : ℕ) → i < k → p (f i) ≡ true) → ((i : ℕ) → k ≤ i → i < n → p (f i) ≡ false) → kept p (list_of f n) ≡ list_of f k)
        → (n ≤ n → ((i : ℕ) → i < n → p (f i) ≡ true) → ((i : ℕ) → n ≤ i → i < n → p (f i) ≡ false) → kept p (list_of f n) ≡ list_of f n)
        → kept p (list_of f n ++ (f n ∷ [])) ≡ list_of f k
    go (yes l) rec all =
        kept_append p (list_of f n) (f n ∷ [])
        ∙ rw (no_of n l (omega arith)) (append-nil (kept p (list_of f n)) ∙ rec l yes_of (λ i u v. no_of i u (omega arith)))
    go (no g) rec all =
        let e : k ≡ suc n = omega arith in
        rw e (kept_append p (list_of f n) (f n ∷ [])
        ∙ rw (yes_of n (omega arith)) (ap (λ (l : List A). l ++ (f n ∷ [])) (all (omega arith) (λ i u. yes_of i (omega arith)) (λ i u v. absurd (omega arith)))))

-- ---- order of whole numbers by what is added
le_on : (x : ℤ) (d : ℕ) → le_z x (x +ℤ pos d) ≡ true
le_on x d = not_lt (x +ℤ pos d) x (not_before x d)

le_self : (x : ℤ) → le_z x x ≡ true
le_self x = subst (λ (w : ℤ). le_z x w ≡ true) (+ℤ_idr x) (le_on x 0)

le_trans : (x y z : ℤ) → le_z x y ≡ true → le_z y z ≡ true → le_z x z ≡ true
le_trans x y z h k =
    let d = nat_abs (y -ℤ x) in
    let e = nat_abs (z -ℤ y) in
    subst (λ (w : ℤ). le_z x w ≡ true) (sym (+ℤ_assoc x (pos d) (pos e)) ∙ ap (λ (w : ℤ). w +ℤ pos e) (from_start x y h) ∙ from_start y z k) (le_on x (d + e))

module _ (s : ℕ) (hs : 0 < s) where
  times_on : (x : ℤ) (d : ℕ) → (x +ℤ pos d) *ℤ pos s ≡ x *ℤ pos s +ℤ pos (d * s)
  times_on x d = multiple-element x s d

  times_le : (x y : ℤ) → le_z x y ≡ true → le_z (x *ℤ pos s) (y *ℤ pos s) ≡ true
  times_le x y h =
      let d = nat_abs (y -ℤ x) in
      subst (λ (w : ℤ). le_z (x *ℤ pos s) w ≡ true) (sym (times_on x d) ∙ ap (λ (w : ℤ). w *ℤ pos s) (from_start x y h)) (le_on (x *ℤ pos s) (d * s))

  -- x s ≤ y s only where x ≤ y: otherwise x is y and some more
  times_back : (x y : ℤ) → le_z (x *ℤ pos s) (y *ℤ pos s) ≡ true → le_z x y ≡ true
  times_back x y h = go (le_z x y) refl
    where
      go : (t : Bool) → le_z x y ≡ t → le_z x y ≡ true
      go true e = e
      go false e =
          let back = other_way x y e in
          let d = nat_abs (x -ℤ y) in
          let x_is : x ≡ y +ℤ pos d = sym (from_start y x back) in
          let level : x *ℤ pos s ≡ y *ℤ pos s = both_ways (x *ℤ pos s) (y *ℤ pos s) h (times_le y x back) in
          let nothing : pos (d * s) ≡ pos 0 = sym (back_to_start (y *ℤ pos s) (pos (d * s))) ∙ ap (λ (w : ℤ). w -ℤ y *ℤ pos s) (sym (times_on y d) ∙ ap (λ (w : ℤ). w *ℤ pos s) (sym x_is) ∙ level) ∙ +ℤ_invr (y *ℤ pos s) in
          let zero_times : d * s ≡ 0 = ap nat_abs nothing in
          let none : d ≡ 0 = no_steps d zero_times in
          subst (λ (w : ℤ). le_z x w ≡ true) (x_is ∙ ap (λ (n : ℕ). y +ℤ pos n) none ∙ +ℤ_idr y) (le_self x)
        where
          no_steps : (d : ℕ) → d * s ≡ 0 → d ≡ 0
          no_steps zero q = refl
          no_steps (suc d) q = absurd (omega (arith, mul-le-mul_right s (let one : 1 ≤ suc d = omega arith in one), one-mul s))

-- ---- which of them lie from i to j
many_to : (i : ℤ) (n : ℕ) → how_many i (i +ℤ pos n) ≡ n + 1
many_to i n = ap raised (ap (λ (z : ℤ). z -ℤ i) (+ℤ_assoc i (pos n) (pos 1)) ∙ back_to_start i (pos (n + 1)))

within : (i j : ℤ) (k : ℕ) → k < how_many i j → le_z (i +ℤ pos k) j ≡ true
within i j k h =
    let r = how_many i j - suc k in
    subst (λ (z : ℤ). le_z (i +ℤ pos k) z ≡ true) (+ℤ_assoc i (pos k) (pos r) ∙ sym (last_of i j k r (omega arith))) (le_on (i +ℤ pos k) r)

counted : (i j w : ℤ) → le_z i w ≡ true → le_z w j ≡ true → (k : ℕ) × (k < how_many i j) × (w ≡ i +ℤ pos k)
counted i j w h l =
    let k = nat_abs (w -ℤ i) in
    let d = nat_abs (j -ℤ w) in
    let w_is : i +ℤ pos k ≡ w = from_start i w h in
    let j_is : i +ℤ pos (k + d) ≡ j = sym (+ℤ_assoc i (pos k) (pos d)) ∙ ap (λ (z : ℤ). z +ℤ pos d) w_is ∙ from_start w j l in
    let many : how_many i j ≡ k + d + 1 = ap (how_many i) (sym j_is) ∙ many_to i (k + d) in
    (k, omega (arith, many), sym w_is)

-- ---- the last mark is a multiple that is not above hi, and no other such multiple is greater
module _ (s : ℕ) (hs : 0 < s) where
  inside_not_above : (hi : ℤ) → le_z (last_inside hi s *ℤ pos s) hi ≡ true
  inside_not_above hi =
      let f = first_index (neg_ℤ hi) s in
      rw (neg_times f s)
      (subst (λ (z : ℤ). le_z (neg_ℤ (f *ℤ pos s)) z ≡ true) (neg_ℤ-neg_ℤ hi) (neg_le (f *ℤ pos s) (neg_ℤ hi) ∙ le_yes (first_not_below s hs (neg_ℤ hi))))

  inside_greatest : (hi w : ℤ) → le_z (w *ℤ pos s) hi ≡ true → le_z w (last_inside hi s) ≡ true
  inside_greatest hi w h =
      let f = first_index (neg_ℤ hi) s in
      let turned : le_z (neg_ℤ hi) (neg_ℤ w *ℤ pos s) ≡ true = rw (neg_times w s) (neg_le hi (w *ℤ pos s) ∙ h) in
      let least : le_z f (neg_ℤ w) ≡ true = times_back s hs f (neg_ℤ w) (le_yes (first_least s hs (neg_ℤ hi) (neg_ℤ w) (yes_le turned))) in
      subst (λ (z : ℤ). le_z z (neg_ℤ f) ≡ true) (neg_ℤ-neg_ℤ w) (neg_le (neg_ℤ w) f ∙ least)

  first_index_least : (lo w : ℤ) → le_z lo (w *ℤ pos s) ≡ true → le_z (first_index lo s) w ≡ true
  first_index_least lo w h = times_back s hs (first_index lo s) w (le_yes (first_least s hs lo w (yes_le h)))

  module _ (lo hi : ℤ) where
    abbrev i : ℤ
    i = first_index lo s

    abbrev j : ℤ
    j = last_inside hi s

    above_lo : (k : ℕ) → le_z lo (multiple i s k) ≡ true
    above_lo k = le_trans lo (i *ℤ pos s) (multiple i s k) (le_yes (first_not_below s hs lo)) (times_le s hs i (i +ℤ pos k) (le_on i k))

    below_hi : (k : ℕ) → k < how_many i j → le_z (multiple i s k) hi ≡ true
    below_hi k h = le_trans (multiple i s k) (j *ℤ pos s) hi (times_le s hs (i +ℤ pos k) j (within i j k h)) (inside_not_above hi)

    past_hi : (k : ℕ) → how_many i j ≤ k → le_z (multiple i s k) hi ≡ false
    past_hi k h = go (le_z (multiple i s k) hi) refl
      where
        go : (t : Bool) → le_z (multiple i s k) hi ≡ t → le_z (multiple i s k) hi ≡ false
        go false e = e
        go true e =
            let at = counted i j (i +ℤ pos k) (le_on i k) (inside_greatest hi (i +ℤ pos k) e) in
            let same : k ≡ at.0 = ap nat_abs (sym (back_to_start i (pos k)) ∙ ap (λ (z : ℤ). z -ℤ i) at.2 ∙ back_to_start i (pos at.0)) in
            absurd (omega (arith, at.1, same))

    marks-exactly : (z : ℤ) → Memᴰ z (multiples i j s) ↔ (IsMultiple s z × (lo ≤ℤ z) × (z ≤ℤ hi))
    marks-exactly z = (
      λ h.
          let w = which (multiple i s) (how_many i j) h in
          ((i +ℤ pos w.0, w.2), yes_le (rw w.2 (above_lo w.0)), yes_le (rw w.2 (below_hi w.0 w.1))),
      λ h.
          let w = h.0.0 in
          let lo_le : le_z lo (w *ℤ pos s) ≡ true = subst (λ (x : ℤ). le_z lo x ≡ true) h.0.1 (le_yes h.1) in
          let le_hi : le_z (w *ℤ pos s) hi ≡ true = subst (λ (x : ℤ). le_z x hi ≡ true) h.0.1 (le_yes h.2) in
          let at = counted i j w (first_index_least lo w lo_le) (inside_greatest hi w le_hi) in
          subst (λ (x : ℤ). Memᴰ x (multiples i j s)) (ap (λ (x : ℤ). x *ℤ pos s) (sym at.2) ∙ sym h.0.1) (listed (multiple i s) (how_many i j) at.0 at.1),
    )

    marks-kept : kept (lies_on lo hi) (multiples i (last_index hi s) s) ≡ multiples i j s
    marks-kept =
        kept-first (lies_on lo hi) (multiple i s) (how_many i j) (how_many i (last_index hi s)) (fewer s hs Inside i hi)
        (λ k h. rw (above_lo k, below_hi k h))
        (λ k h l. rw (above_lo k, past_hi k h))

    marks_ascend : (k : ℕ) → k + 1 < how_many i j → get_or (multiples i j s) (k + 1) (pos 0) ≡ get_or (multiples i j s) k (pos 0) +ℤ pos s
    marks_ascend k h =
        let n = how_many i j in
        let f = multiple i s in
        let one : (k + 1) * s ≡ k * s + s = add-mul k 1 s ∙ ap (λ (x : ℕ). k * s + x) (one-mul s) in
        entry f (pos 0) n (k + 1) h
        ∙ multiple-element i s (k + 1)
        ∙ ap (λ (x : ℕ). i *ℤ pos s +ℤ pos x) one
        ∙ sym (+ℤ_assoc (i *ℤ pos s) (pos (k * s)) (pos s))
        ∙ ap (λ (z : ℤ). z +ℤ pos s) (sym (multiple-element i s k) ∙ sym (entry f (pos 0) n k (omega arith)))

-- ---- the axis with the ends a and b
pub on_axis : (a b : ℤ) (m : ℕ) → no_step a b m ≡ false → OnAxis a b m
unfolding inside_for marks_for no_step_for step_for
on_axis a b m h =
    let hs = step_pos (chosen (distance (low a b) (high a b)) m) (leb-false _ _ h) in
    record {
      exactly = marks-exactly (step_of a b m) hs (low a b) (high a b);
      ascending = λ k l. marks_ascend (step_of a b m) hs (low a b) (high a b) k (omega (arith, l, count_by Inside a b m));
      those_of_plotters = sym (marks-kept (step_of a b m) hs (low a b) (high a b));
      few = at_most Inside a b m h;
    }
