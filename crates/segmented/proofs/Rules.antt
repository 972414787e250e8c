-- The rules of the calls, return by return, over any axis. Assumes nothing.
use Rattle.std.proofs.Common.{◌≡◌, ℕ, suc, ◌+◌, ◌≤◌, Bool, true, false, cond, not, ◌&&◌, ◌||◌, eqb, ◌⊎◌, inl, inr, List, [], ◌∷◌, ℤ, ◌+ℤ◌, ◌-ℤ◌, sym, refl, ap, ◌∙◌, subst, add-one, arith, le-ltb, lt-ltb, eq-eqb, ne_eqb}
use Rattle.std.specs.Prelude.{Option, Some, None}
use mathlib.Core.Bool.{and-false, and-true}
use borrow.Author.Tests.{eqb-false, not-false}
use Rattle.ranged1d.specs.Answer.{Answer, given, none, refused, Reason, ◌when◌, lowest, and_then}
use Rattle.ranged1d.specs.Admitted.{limit_admitted, reading_admitted}
use Rattle.ranged1d.specs.declared.Limit.{Limit}
use Rattle.ranged1d.proofs.Answers.{one-refusal, given_is, not-both, not_none}
use Rattle.ranged1d.proofs.Bools.{both_false}
use Rattle.ranged1d.proofs.Lowest.{given_tests, either, stops}
use Rattle.discrete.specs.Index.{index_for, pixel_index}
use Rattle.real.specs.Place.{is_beyond, number, spot_answer}
use Rattle.segmented.specs.Values.{Segment, exact, center_of, last}
use Rattle.segmented.specs.Segments.{Axis, Finder, unlisted, half, margin, narrowed, start, entry_after, middle, placed, after_beyond, too_far, fit_in, unsought_place, segment_place, segment_size, index_in, unsought_in, segment_index_of, exactly, segment_at, segment_from_index, segment_of, segment_reading, count_reasons}
use Rattle.segmented.specs.Axes.{most_values}
use Rattle.segmented.specs.Steps.{standing, half_way, middle_by, count_answer, size_answer, entry_answer, index_answer, place_answer, Regular, Stands, next_answer, after_answer, middle_answer, placed_answer}
use Rattle.segmented.proofs.Margin.{moved_by}

-- ---- why there are no segments: u and z are 6 and 7, w that there are no entries or too many
-- 4, 6 and 7, with 5 between them
stopped-far : {B C : Type 0} (u z w f : Bool) (rest : List Reason) (r : Answer B) (x : C) {n : ℕ} → lowest (4 when (not (u || z) && w) ∷ 6 when u ∷ 7 when z ∷ []) (given x) ≡ refused n
    → lowest (4 when (not (u || z) && w) ∷ 5 when (not (u || z) && f) ∷ 6 when u ∷ 7 when z ∷ rest) r ≡ refused n
stopped-far true z w f rest r x e = one-refusal e
stopped-far false true w f rest r x e = one-refusal e
stopped-far false false true f rest r x e = one-refusal e
stopped-far false false false f rest r x e = absurd (not-both e)

module _ {A : Type 0} (axis : Axis A) where
  abbrev w : Bool
  w = eqb axis.count 0 || axis.too_many

  counts_are : axis.admitted ≡ true → count_answer axis ≡ lowest (unlisted axis) (given axis.count)
  unfolding count_answer
  counts_are h = rw h refl

  -- ---- what is known of a count
  pub stands : (axis.too_many ≡ false → axis.too_long ≡ false → axis.count ≤ most_values) → {n : ℕ} → given n ≡ count_answer axis → Stands axis n
  unfolding count_answer
  stands few e =
      let told = given_tests (count_reasons axis) (given axis.count) (sym e) in
      let hu = told.0.1.1.0 in
      let hz = told.0.1.1.1.0 in
      let both = both_false (eqb axis.count 0) axis.too_many (rw (hu, hz) at told.0.1.0) in
      let s = given_is told.1 in
      record { admitted = not-false axis.admitted told.0.0; onward = hu; short = hz; few = both.1; count = s; some = omega (arith, eqb-false axis.count 0 both.0, s); most = omega (arith, few both.1 hz, s) }

  -- the count, from that of the axis
  pub counted_by : Regular axis → {r : Answer ℕ} → r ≡ size_answer axis → standing r ≡ count_answer axis
  unfolding size_answer count_answer
  counted_by law e = ap standing e ∙ go axis.admitted axis.against axis.too_long refl axis.too_many refl
    where
      go : (t u z : Bool) → axis.too_long ≡ z → (m : Bool) → axis.too_many ≡ m
          → standing (lowest (1 when not t ∷ 6 when u ∷ 7 when z ∷ []) (given axis.count))
          ≡ lowest (1 when not t ∷ 4 when (not (u || z) && (eqb axis.count 0 || m)) ∷ 6 when u ∷ 7 when z ∷ []) (given axis.count)
      go false u z h m g = refl
      go true true z h m g = refl
      go true false true h m g = refl
      go true false false h true g = rw (lt-ltb most_values axis.count (law.many g)) refl
      go true false false h false g = rw (le-ltb most_values axis.count (law.few g h)) refl

  -- there is a count, or why there is none
  pub counted_or_stopped : (count_answer axis ≡ given axis.count) ⊎ ((n : ℕ) × (count_answer axis ≡ refused n))
  unfolding count_answer
  counted_or_stopped = either axis.count (count_reasons axis)

  module _ {n : ℕ} (k : Stands axis n) where
    -- what the axis then answers
    pub entry_is : (k : ℕ) → entry_answer axis k ≡ axis.entry k
    unfolding entry_answer
    entry_is i = rw (k.admitted, k.onward, k.short) refl

    pub place_at : (v : A) → axis.fit v ≡ true → (l : Limit) → limit_admitted l ≡ true → place_answer axis v l ≡ spot_answer (axis.spot v l)
    unfolding place_answer
    place_at v h l p = rw (k.admitted, h, p) refl

    pub some-entries : eqb axis.count 0 ≡ false
    some-entries = ne_eqb axis.count 0 (λ e. omega (arith, k.some, k.count, e))

  -- ---- `size`
  pub size-stopped : {n : ℕ} → refused n ≡ count_answer axis → refused n ≡ segment_size axis
  unfolding count_answer segment_size
  size-stopped e = sym (stops (count_reasons axis) [] (given (suc axis.count)) axis.count (sym e))

  pub size_is : {n : ℕ} → Stands axis n → given (n + 1) ≡ segment_size axis
  unfolding segment_size
  size_is {n} k = rw (k.admitted, k.onward, k.short, some-entries k, k.few, k.count) (ap given (add-one n))

  -- ---- `map`
  module _ (find : Finder A) (s : Segment A) (limit : Limit) where
    pub place_unfit : (axis.admitted && fit_in axis s) ≡ false → refused 1 ≡ segment_place axis find s limit
    unfolding segment_place
    place_unfit h = rw h refl

    module _ (h : (axis.admitted && fit_in axis s) ≡ true) where
      pub place_unlimited : limit_admitted limit ≡ false → refused 2 ≡ segment_place axis find s limit
      unfolding segment_place
      place_unlimited l = rw (h, l) refl

      module _ (l : limit_admitted limit ≡ true) where
        pub place-stopped : axis.admitted ≡ true → {n : ℕ} → refused n ≡ count_answer axis → refused n ≡ segment_place axis find s limit
        unfolding segment_place
        place-stopped t e = rw (h, l) (sym (stopped-far axis.against axis.too_long w (too_far axis find s limit) (9 when unsought_place axis find s ∷ []) (placed axis find s limit) axis.count (sym (e ∙ counts_are t))))

        pub place_is : {n : ℕ} → Stands axis n → placed_answer axis find s limit ≡ segment_place axis find s limit
        unfolding segment_place placed_answer
        place_is k = rw (h, l, k.onward, k.short, some-entries k, k.few) refl

  -- ---- a place on an axis with segments, between limits l that are narrowed
  module _ (find : Finder A) (limit : Limit) where
    pub placed-last : given limit.1 ≡ placed_answer axis find last limit
    unfolding placed_answer
    placed-last = refl

    module _ {n : ℕ} (k : Stands axis n) {l : Limit} (e : l ≡ narrowed n limit) (v : A) where
      within_is : l ≡ narrowed axis.count limit
      within_is = e ∙ ap (λ (m : ℕ). narrowed m limit) (sym k.count)

      pub placed-exact : spot_answer (axis.spot v l) ≡ placed_answer axis find (exact v) limit
      unfolding placed_answer
      placed-exact = ap (λ (m : Limit). spot_answer (axis.spot v m)) within_is

      -- the middle, by the places of the entry and of its successor
      abbrev M : ℤ
      M = margin axis.count limit

      abbrev begun : Option ℤ
      begun = start axis v limit

      centered : (x : Option ℤ) → begun ≡ x → middle_by M (spot_answer begun) (after_answer axis find v (narrowed axis.count limit)) ≡ placed_answer axis find (center_of v) limit
      unfolding placed_answer after_answer next_answer
      centered None q = rw q refl
      centered (Some z) q = rw q (go (find.unsought v) (entry_after axis (find.index v)))
        where
          behind : (w : A) (y : Option ℤ) → start axis w limit ≡ y → half_way M z (spot_answer (start axis w limit)) ≡ cond (is_beyond (start axis w limit)) (refused 5) (given (half (number begun +ℤ number (start axis w limit))))
          behind w None p = rw p refl
          behind w (Some y) p = rw (p, q) refl

          go : (t : Bool) (r : Answer A) → half_way M z (and_then (cond t (refused 9) (cond t none r)) (λ w. spot_answer (start axis w limit)))
              ≡ cond (after_beyond axis limit (cond t none r)) (refused 5) (cond t (refused 9) (middle axis v limit (cond t none r)))
          go true r = refl
          go false (given w) = behind w (start axis w limit) refl
          go false none = rw q refl
          go false (refused m) = refl

      pub placed_center : middle_answer axis find v limit l ≡ placed_answer axis find (center_of v) limit
      unfolding middle_answer
      placed_center =
          subst (λ (m : Limit). middle_by (limit.1 -ℤ m.1) (spot_answer (axis.spot v m)) (after_answer axis find v m) ≡ placed_answer axis find (center_of v) limit) (sym within_is)
          (ap (λ (m : ℤ). middle_by m (spot_answer begun) (after_answer axis find v (narrowed axis.count limit))) (moved_by axis.count limit refl) ∙ centered begun refl)

  -- ---- `index_of`
  module _ (find : Finder A) (s : Segment A) where
    pub index_unfit : fit_in axis s ≡ false → refused 1 ≡ segment_index_of axis find s
    unfolding segment_index_of
    index_unfit h = rw (h, and-false axis.admitted) refl

    pub index-stopped : fit_in axis s ≡ true → {n : ℕ} → refused n ≡ count_answer axis → refused n ≡ segment_index_of axis find s
    unfolding count_answer segment_index_of
    index-stopped h e = rw (h, and-true axis.admitted) (sym (stops (count_reasons axis) (9 when unsought_in axis find s ∷ []) (index_in axis find s) axis.count (sym e)))

  module _ (find : Finder A) where
    pub index-last : {n : ℕ} → Stands axis n → given n ≡ segment_index_of axis find last
    unfolding segment_index_of
    index-last k = rw (k.admitted, k.onward, k.short, some-entries k, k.few) (ap given (sym k.count))

    pub index_is : {n : ℕ} → Stands axis n → (v : A) → index_answer axis find v ≡ segment_index_of axis find (exact v)
    unfolding index_answer segment_index_of
    index_is k v = rw (k.onward, k.short, some-entries k, k.few) refl

    pub index_carried : (v : A) {s : Segment A} → (s ≡ exact v) ⊎ (s ≡ center_of v) → segment_index_of axis find (exact v) ≡ segment_index_of axis find s
    unfolding segment_index_of
    index_carried v (inl e) = ap (segment_index_of axis find) (sym e)
    index_carried v (inr e) = ap (segment_index_of axis find) (sym e)

    -- ---- the successor of v: the entry one after its index, of which holds what holds of every entry
    module _ (v : A) where
      pub next_is : {n : ℕ} → Stands axis n → axis.fit v ≡ true → {r : Answer ℕ} → r ≡ index_answer axis find v → entry_after axis r ≡ next_answer axis find v
      unfolding index_answer next_answer
      next_is k h e = ap (entry_after axis) e ∙ rw (k.admitted, h, k.onward, k.short) (go (find.unsought v) (find.index v))
        where
          go : (t : Bool) (f : Answer ℕ) → entry_after axis (cond t (refused 9) f) ≡ cond t (refused 9) (cond t none (entry_after axis f))
          go true f = refl
          go false f = refl

      pub next_entry : {n : ℕ} → Stands axis n → axis.fit v ≡ true → {k : ℕ} → given k ≡ index_answer axis find v → {r : Answer A} → r ≡ entry_answer axis (k + 1) → r ≡ next_answer axis find v
      next_entry s h {k} i e = e ∙ ap (entry_answer axis) (add-one k) ∙ entry_is s (suc k) ∙ next_is s h i

      pub next_of : (P : A → Type 0) {w : A} → ((k : ℕ) → axis.entry k ≡ given w → P w) → given w ≡ next_answer axis find v → P w
      unfolding next_answer
      next_of P {w} each e = go (find.unsought v) (find.index v) (sym e)
        where
          go : (t : Bool) (f : Answer ℕ) → cond t (refused 9) (cond t none (entry_after axis f)) ≡ given w → P w
          go true f e = absurd (not-both (sym e))
          go false (given k) e = each (suc k) e
          go false none e = absurd (not_none e)
          go false (refused m) e = absurd (not-both (sym e))

    -- the place of a successor that is known
    pub after_is : (v : A) (l : Limit) {r : Answer A} → r ≡ next_answer axis find v → and_then r (λ w. spot_answer (axis.spot w l)) ≡ after_answer axis find v l
    unfolding after_answer
    after_is v l e = ap (λ (r : Answer A). and_then r (λ w. spot_answer (axis.spot w l))) e

    pub after_next : (v : A) (l : Limit) {w : A} → given w ≡ next_answer axis find v → {behind : Axis A} → behind ≡ axis → {r : Answer ℤ} → r ≡ spot_answer (behind.spot w l) → r ≡ after_answer axis find v l
    after_next v l {w} e p q = q ∙ ap (λ (x : Axis A). spot_answer (x.spot w l)) p ∙ after_is v l e

    -- the middle, by places that are known
    pub middle_of : (v : A) (limit l : Limit) {left right : Answer ℤ} → left ≡ spot_answer (axis.spot v l) → right ≡ after_answer axis find v l → middle_by (limit.1 -ℤ l.1) left right ≡ middle_answer axis find v limit l
    unfolding middle_answer
    middle_of v limit l {left} p r =
        ap (middle_by (limit.1 -ℤ l.1) left) r
        ∙ ap (λ (x : Answer ℤ). middle_by (limit.1 -ℤ l.1) x (after_answer axis find v l)) p

  -- ---- `from_index`
  pub last-at : {n : ℕ} → Stands axis n → (k : ℕ) → k ≡ n → given last ≡ segment_at axis k
  unfolding segment_at
  last-at s k e = rw (eq-eqb k axis.count (e ∙ sym s.count)) refl

  pub exact-at : {n : ℕ} → Stands axis n → (k : ℕ) → (k ≡ n → ⊥) → {r : Answer A} → r ≡ axis.entry k → exactly axis r ≡ segment_at axis k
  unfolding segment_at
  exact-at s k d e = rw (ne_eqb k axis.count (λ h. d (h ∙ s.count))) (ap (exactly axis) e)

  pub from-stopped : (k : ℕ) {n : ℕ} → refused n ≡ count_answer axis → refused n ≡ segment_from_index axis k
  unfolding count_answer segment_from_index
  from-stopped k e = sym (stops (count_reasons axis) [] (segment_at axis k) axis.count (sym e))

  pub from_is : (k : ℕ) {n : ℕ} → Stands axis n → segment_at axis k ≡ segment_from_index axis k
  unfolding segment_from_index
  from_is k s = rw (s.admitted, s.onward, s.short, some-entries s, s.few) refl

  -- ---- `unmap`
  module _ (x : ℤ) (limit : Limit) where
    pub reading_unfit : axis.admitted ≡ false → refused 1 ≡ segment_reading axis x limit
    unfolding segment_reading
    reading_unfit h = rw h refl

    module _ (h : axis.admitted ≡ true) where
      pub reading_off : reading_admitted x limit ≡ false → refused 2 ≡ segment_reading axis x limit
      unfolding segment_reading
      reading_off p = rw (h, p) refl

      module _ (p : reading_admitted x limit ≡ true) where
        abbrev read_at : Answer (Segment A)
        read_at = segment_of axis (index_for (x -ℤ limit.0) (limit.1 -ℤ limit.0) (suc axis.count))

        reading_tests : segment_reading axis x limit ≡ lowest (unlisted axis) read_at
        unfolding segment_reading
        reading_tests = rw (h, p) refl

        pub reading-stopped : {n : ℕ} → refused n ≡ count_answer axis → refused n ≡ segment_reading axis x limit
        reading-stopped e = sym (reading_tests ∙ stops (unlisted axis) [] read_at axis.count (sym (e ∙ counts_are h)))

        reading_by : {n : ℕ} → Stands axis n → segment_reading axis x limit ≡ read_at
        unfolding segment_reading
        reading_by s = rw (h, p, s.onward, s.short, some-entries s, s.few) refl

        index_by : (n : ℕ) {r : Answer ℕ} → pixel_index x limit (n + 1) ≡ r → index_for (x -ℤ limit.0) (limit.1 -ℤ limit.0) (suc n) ≡ r
        unfolding pixel_index
        index_by n e = rw (p, add-one n) at e

        pub reading_is : {n : ℕ} → Stands axis n → {r : Answer ℕ} → r ≡ pixel_index x limit (n + 1) → segment_of axis r ≡ segment_reading axis x limit
        reading_is {n} s e = sym (reading_by s ∙ ap (segment_of axis) (ap (λ (k : ℕ). index_for (x -ℤ limit.0) (limit.1 -ℤ limit.0) (suc k)) s.count ∙ index_by n (sym e)))
