-- The parts that the look-ups give: where they lie, and what they hold. Assumes nothing.
use Rattle.std.proofs.Common.{◌≡◌, ℕ, suc, ◌+◌, ◌-◌, ◌*◌, ◌<◌, ◌≤◌, Bool, true, false, cond, T, ltb, ◌⊎◌, ◌↔◌, List, [], ◌∷◌, ◌++◌, length, take, drop, replicate, ℤ, sym, refl, ap, ◌∙◌, subst, inl, inr, arith, drop-drop, drop_at, ltb-true, ltb-false, le-ltb, lt-ltb}
use Rattle.std.specs.Prelude.{Option, Some, None}
use Rattle.std.specs.Option.{unwrap_or}
use mathlib.Core.List.Memᴰ
use mathlib.Core.List.{Memᴰ}
use lib.ListN.{length-replicate}
use Rattle.ranged1d.specs.Numbers.{same}
use Rattle.ranged1d.proofs.Bools.{both_true}
use Rattle.ranged1d.proofs.Whole.{same_yes, same_is}
use Rattle.numeric.specs.declared.KeyPoints.{KeyPoints}
use Rattle.numeric.specs.Marks.{list_of}
use Rattle.numeric.specs.Calls.{plan_with, element}
use Rattle.numeric.proofs.Lists.{length_of}
use Rattle.decimal.specs.Print.{decimal}
use Rattle.decimal.proofs.Digits.{decimal-most}
use Rattle.ruler.specs.declared.Drawing.{Drawing}
use Rattle.ruler.specs.declared.Part.{Part}
use Rattle.ruler.specs.Bytes.{head_long, whole, mark, mark_body, laid}
use Rattle.ruler.specs.Place.{place_of}
use Rattle.ruler.specs.Rule.{mark_at, form_in, a_in, b_in, limit_in, m_in, marks_in, is_ruler, index_of, has_mark, record_text, label_text, record_at, label_at, nowhere, record_in, label_in, part, further}
use Rattle.ruler.specs.Steps.{form_of, Inside, drawing_in, index_within, record_found}
use Rattle.std.proofs.lemmas.List.{drop-take}
use Rattle.ruler.proofs.Records.{run_at}
use Rattle.ruler.proofs.Index.{index_found}
use Rattle.ruler.proofs.Drawn.{ruler_rest}
use Rattle.ruler.proofs.Reader.{ruler_in, Known, known_long, known-marks}

-- ---- where the record of v lies
module _ {l : List ℕ} {d : Drawing} {p : KeyPoints} (v : ℤ) (k : Known l d p) where
  abbrev pub place : ℕ
  place = index_of v (list_of (element p.first p.step) p.count)

  has_is : has_mark l v ≡ ltb place p.count
  unfolding has_mark
  has_is = rw (k.ruler, known-marks k, length_of (element p.first p.step) p.count)

  pub found_some : place < p.count → record_found l v ≡ Some (record_at (head_long (form_of d)) place)
  unfolding record_found
  found_some h = rw (has_is, lt-ltb place p.count h, known-marks k) (ap (λ (x : Drawing). Some (record_at (head_long (form_of x)) place)) k.draft)

  pub found_none : p.count ≤ place → record_found l v ≡ None
  unfolding record_found
  found_none h = rw (has_is, le-ltb place p.count h)

pub no_record : (l : List ℕ) (v : ℤ) → is_ruler l ≡ false → record_found l v ≡ None
unfolding record_found has_mark
no_record l v e = rw e

-- a place in a list, as it is told
pub within_some : (n i : ℕ) {k : ℕ} → Some k ≡ index_within n i → (k ≡ i) × (i < n)
within_some n i {k} e = go (ltb i n) refl e
  where
    go : (t : Bool) → ltb i n ≡ t → Some k ≡ cond t (Some i) None → (k ≡ i) × (i < n)
    go true u e = (cc, ltb-true i n u)
    go false u e = absurd (cc)

pub within_none : (n i : ℕ) → None ≡ index_within n i → n ≤ i
within_none n i e = go (ltb i n) refl e
  where
    go : (t : Bool) → ltb i n ≡ t → None ≡ cond {A = Option ℕ} t (Some i) None → n ≤ i
    go true u e = absurd (cc)
    go false u e = ltb-false i n u

-- ---- a mark of a ruler
pub record Marked (l : List ℕ) (v : ℤ) : Type 0 where
  pub known : Known l (drawing_in l) (plan_with (form_in l).choice (a_in l) (b_in l) (m_in l))
  pub index : index_of v (marks_in l) < length (marks_in l)

pub marked : (l : List ℕ) (v : ℤ) → has_mark l v ≡ true → Marked l v
unfolding has_mark
marked l v h =
    let both = both_true (is_ruler l) (ltb (index_of v (marks_in l)) (length (marks_in l))) h in
    record {
      known = ruler_in l both.0;
      index = ltb-true _ _ both.1;
    }

-- the record of v is at its place
module _ (l : List ℕ) (v : ℤ) (w : Marked l v) where
  record_here : take 20 (drop (head_long (form_in l) + 20 * index_of v (marks_in l)) l) ≡ laid (mark_at (a_in l) (b_in l) (limit_in l) v)
  record_here =
      let g = w.known in
      let p = plan_with (form_in l).choice (a_in l) (b_in l) (m_in l) in
      let f = element p.first p.step in
      let k = index_of v (marks_in l) in
      let at-k : f k ≡ v = ap (λ (x : List ℤ). f (index_of v x)) (known-marks g) ∙ index_found v f p.count (subst (λ (x : List ℤ). index_of v x < p.count) (known-marks g) w.index) in
      ap (take 20) (sym (drop-drop (20 * k) (head_long (form_in l)) l))
      ∙ ap (λ (x : List ℕ). take 20 (drop (20 * k) x)) (ap (drop (head_long (form_in l))) g.bytes ∙ ruler_rest _ _ _ _ _ g.plan)
      ∙ run_at (a_in l) (b_in l) (limit_in l) f p.count k w.index
      ∙ ap (λ (x : ℤ). laid (mark_at (a_in l) (b_in l) (limit_in l) x)) at-k

  ends-inside : head_long (form_in l) + 20 + 20 * index_of v (marks_in l) ≤ length l
  ends-inside = omega (arith, known_long w.known, w.index)

-- the end of a record is its number in base ten
text-end : (v x : ℤ) → drop (20 - length (decimal v)) (laid (mark v x)) ≡ decimal v
unfolding laid mark_body
text-end v x =
    drop_at (2 ∷ whole v ++ whole x ++ replicate (11 - length (decimal v)) 32) (decimal v) (20 - length (decimal v)) (omega (arith, length-replicate {A = ℕ} (11 - length (decimal v)) 32, decimal-most v))

-- ---- the two parts, by whether v is a mark
module _ (l : List ℕ) (v : ℤ) where
  abbrev k : ℕ
  k = index_of v (marks_in l)

  abbrev h : ℕ
  h = head_long (form_in l)

  -- a record's part: inside the bytes, and what it holds
  pub record_inside : Inside l (record_in l v)
  unfolding record_in
  record_inside = go (has_mark l v) refl
    where
      go : (t : Bool) → has_mark l v ≡ t → Inside l (cond t (record_at h k) nowhere)
      go true e = (omega arith, ends-inside l v (marked l v e))
      go false e = (omega arith, omega arith)

  pub record_holds : part (record_in l v) l ≡ record_text l v
  unfolding record_in
  record_holds = go (has_mark l v) refl
    where
      go : (t : Bool) → has_mark l v ≡ t → part (cond t (record_at h k) nowhere) l ≡ cond t (laid (mark_at (a_in l) (b_in l) (limit_in l) v)) []
      go true e = let w : h + 20 + 20 * k - (h + 20 * k) ≡ 20 = omega arith in rw w (record_here l v (marked l v e))
      go false e = refl

  -- the two parts, as the record is found
  pub record_by : record_in l v ≡ unwrap_or (record_found l v) nowhere
  unfolding record_in record_found
  record_by = go (has_mark l v)
    where
      go : (t : Bool) → cond t (record_at h k) nowhere ≡ unwrap_or (cond t (Some (record_at h k)) None) nowhere
      go true = refl
      go false = refl

  -- a label's part, by its record's
  pub label_found : (record_in l v).start < (record_in l v).end → (label_in l v ≡ label_at (record_in l v) v) × (45 ≤ (record_in l v).end)
  unfolding record_in label_in
  label_found = go (has_mark l v)
    where
      go : (t : Bool) → (cond t (record_at h k) nowhere).start < (cond t (record_at h k) nowhere).end → (cond t (label_at (cond t (record_at h k) nowhere) v) nowhere ≡ label_at (cond t (record_at h k) nowhere) v) × (45 ≤ (cond t (record_at h k) nowhere).end)
      go true u = (refl, omega arith)
      go false u = absurd (omega arith)

  pub label_absent : (record_in l v).end ≤ (record_in l v).start → label_in l v ≡ nowhere
  unfolding record_in label_in
  label_absent = go (has_mark l v)
    where
      go : (t : Bool) → (cond t (record_at h k) nowhere).end ≤ (cond t (record_at h k) nowhere).start → cond t (label_at (cond t (record_at h k) nowhere) v) nowhere ≡ nowhere
      go true u = absurd (omega arith)
      go false u = refl

  -- the same, as the record is found
  pub label_some : (r : Part) → record_found l v ≡ Some r → (label_in l v ≡ label_at r v) × (45 ≤ r.end)
  unfolding record_in record_found label_in
  label_some r e = go (has_mark l v) e
    where
      go : (t : Bool) → cond t (Some (record_at h k)) None ≡ Some r → (cond t (label_at (cond t (record_at h k) nowhere) v) nowhere ≡ label_at r v) × (45 ≤ r.end)
      go true u = let is : record_at h k ≡ r = cc in (ap (λ (x : Part). label_at x v) is, omega (arith, ap (λ (x : Part). x.end) is))
      go false u = absurd (cc)

  pub label_none : record_found l v ≡ None → label_in l v ≡ nowhere
  unfolding record_in record_found label_in
  label_none e = go (has_mark l v) e
    where
      go : (t : Bool) → cond t (Some (record_at h k)) None ≡ None → cond t (label_at (cond t (record_at h k) nowhere) v) nowhere ≡ nowhere
      go true u = absurd (cc)
      go false u = refl

  pub label_inside : Inside l (label_in l v)
  unfolding record_in label_in
  label_inside = go (has_mark l v) refl
    where
      go : (t : Bool) → has_mark l v ≡ t → Inside l (cond t (label_at (cond t (record_at h k) nowhere) v) nowhere)
      go true e = (omega arith, ends-inside l v (marked l v e))
      go false e = (omega arith, omega arith)

  pub label_holds : part (label_in l v) l ≡ label_text l v
  unfolding record_in label_in
  label_holds = go (has_mark l v) refl
    where
      go : (t : Bool) → has_mark l v ≡ t → part (cond t (label_at (cond t (record_at h k) nowhere) v) nowhere) l ≡ cond t (decimal v) []
      go true e =
          let w = length (decimal v) in
          let most = decimal-most v in
          let e₁ : h + 20 + 20 * k - (h + 20 + 20 * k - w) ≡ w = omega (arith, most) in
          let e₂ : h + 20 + 20 * k - w ≡ h + 20 * k + (20 - w) = omega (arith, most) in
          let e₃ : 20 - w + w ≡ 20 = omega (arith, most) in
          rw (e₁, e₂, ← drop-drop (20 - w) (h + 20 * k) l, ← drop-take (20 - w) w (drop (h + 20 * k) l), e₃, record_here l v (marked l v e)) (text-end v (place_of (a_in l) (b_in l) (limit_in l) v))
      go false e = refl

  -- a label's part lies in its record, behind the kind, the needle and the place
  pub label_in_record : has_mark l v ≡ true → ((record_in l v).start + 9 ≤ (label_in l v).start) × ((label_in l v).end ≡ (record_in l v).end)
  unfolding record_in label_in
  label_in_record u = rw u (omega (arith, decimal-most v), refl)

-- ---- a part that was cut, by which part it is
module _ (l : List ℕ) (from : ℕ × ℕ) {x text : List ℕ} {at : ℕ × ℕ} {r w : Part} (e : r ≡ w) (holds : part w l ≡ text) where
  pub cut_is : (x ≡ part r l) × (at ≡ further r.start from) → (x ≡ text) × (at ≡ further w.start from)
  cut_is c = (c.0 ∙ ap (λ (p : Part). part p l) e ∙ holds, c.1 ∙ ap (λ (p : Part). further p.start from) e)

-- ---- which needles are found: those of the list of marks
found_in : (v : ℤ) (xs : List ℤ) → index_of v xs < length xs → Memᴰ v xs
found_in v [] h = absurd (omega arith)
found_in v (x ∷ xs) h = go (same x v) refl h (found_in v xs)
  where
    go : (t : Bool) → same x v ≡ t → cond t 0 (suc (index_of v xs)) < suc (length xs) → (index_of v xs < length xs → Memᴰ v xs) → Memᴰ v (x ∷ xs)
    go true e h rec = Memᴰ.head (sym (same_is x v e))
    go false e h rec = Memᴰ.tail (rec (omega arith))

index_in : (v : ℤ) (xs : List ℤ) → Memᴰ v xs → index_of v xs < length xs
index_in v [] w = absurd (Memᴰ.not-nil w)
index_in v (x ∷ xs) w = go (same x v) refl (Memᴰ.cases_cons w) (index_in v xs)
  where
    go : (t : Bool) → same x v ≡ t → (v ≡ x) ⊎ Memᴰ v xs → (Memᴰ v xs → index_of v xs < length xs) → cond t 0 (suc (index_of v xs)) < suc (length xs)
    go true e u rec = omega arith
    go false e (inl q) rec = absurd (subst T (sym (ap (same x) q ∙ same_yes x x refl) ∙ e) tt)
    go false e (inr u) rec = omega (arith, rec u)

pub marks_found : (l : List ℕ) (v : ℤ) → (has_mark l v ≡ true) ↔ ((is_ruler l ≡ true) × Memᴰ v (marks_in l))
unfolding has_mark
marks_found l v = (
  λ h. let both = both_true (is_ruler l) (ltb (index_of v (marks_in l)) (length (marks_in l))) h in (both.0, found_in v (marks_in l) (ltb-true _ _ both.1)),
  λ h. rw (h.0, lt-ltb _ _ (index_in v (marks_in l) h.1)),
)
