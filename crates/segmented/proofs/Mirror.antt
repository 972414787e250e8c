-- The mirror theorem for segments over stepped axes, once over a kind of numbers. Assumes nothing.
use Rattle.std.proofs.Common.{◌≡◌, ℕ, zero, suc, Bool, true, false, cond, ◌&&◌, ◌||◌, ltb, ◌⊎◌, List, [], ◌∷◌, length, ℤ, ◌+ℤ◌, ◌-ℤ◌, neg_ℤ, sym, refl, ap, ◌∙◌, subst, ap₂, inl, inr}
use Rattle.std.specs.Prelude.{Option, Some, None}
use lib.IntN.{neg_ℤ-+ℤ}
use lib.Ieee.{Float, neg}
use Rattle.ranged1d.specs.Answer.{Answer, given, none, refused, ◌when◌, lowest, Paired, both_given, both_none, both_refused, BothLong}
use Rattle.ranged1d.specs.Admitted.{whole_admitted, limit_admitted}
use Rattle.ranged1d.specs.declared.Limit.{Limit}
use Rattle.ranged1d.proofs.Answers.{not_none, not-both}
use Rattle.ranged1d.proofs.Bools.{both_true}
use Rattle.ranged1d.proofs.Lowest.{lowest_then, last-same}
use Rattle.ranged1d.proofs.Whole.{quot_neg}
use Rattle.rounding.proofs.Signs as place
use Rattle.real.specs.Place.{is_beyond, number}
use Rattle.real.specs.Mirror.{mirrored, negated}
use Rattle.real.proofs.Mirror.{real-spot, whole-spot}
use Rattle.real.proofs.Readings.{limit-neg, length-neg}
use Rattle.search.specs.Search as rule
use Rattle.search.specs.Mirror.{turned, Each, end, more}
use Rattle.search.specs.declared.RoundingMethod.{RoundingMethod}
use Rattle.search.proofs.Turned.{each-length, search-turned, exact_stays}
use Rattle.search.proofs.Mirror.{Opposite, Across}
use Rattle.linspace.specs.List.{Kind, whole, real, stepped, against, axis_admitted}
use Rattle.linspace.specs.Calls.{nth, step_spot}
use Rattle.linspace.specs.Mirror as steps
use Rattle.linspace.proofs.Turned.{KindTurns, stepped-turned, admitted-turned, against-turned, marks-turned}
use Rattle.linspace.proofs.Mirror as lists
use Rattle.segmented.specs.Values.{Segment, exact, center_of, last}
use Rattle.segmented.specs.Segments.{Axis, half, margin, narrowed, start, entry_after, successor, middle, after_beyond, fit_in, unmarked, segment_place, segment_size, segment_index_of, segment_key_points}
use Rattle.segmented.specs.Steps.{count_answer, Stands, placed_answer}
use Rattle.segmented.specs.Regular.{few_enough, step-regular}
use Rattle.segmented.specs.Mirror.{across, here, there, find_here, find_there, Mirrored, WholeMirrored, RealMirrored}
use Rattle.segmented.proofs.Margin.{margin-neg}
use Rattle.segmented.proofs.Rules.{counted_or_stopped, place_unfit, place_unlimited, place-stopped, place_is, stands}

-- ---- limits
narrow_neg : (n : ℕ) (limit : Limit) → narrowed n (mirrored limit) ≡ mirrored (narrowed n limit)
narrow_neg n limit =
    ap (λ (z : ℤ). record { 0 = neg_ℤ limit.0; 1 = z }) (ap (λ (z : ℤ). neg_ℤ limit.1 -ℤ z) (margin-neg n limit) ∙ length-neg (margin n limit) limit.1)

-- ---- places
beyond_neg : (w : Option ℤ) → is_beyond (place.negated w) ≡ is_beyond w
beyond_neg (Some z) = refl
beyond_neg None = refl

number-neg : (w : Option ℤ) → number (place.negated w) ≡ neg_ℤ (number w)
number-neg (Some z) = refl
number-neg None = refl

middle-neg : (x y : ℤ) → half (neg_ℤ x +ℤ neg_ℤ y) ≡ neg_ℤ (half (x +ℤ y))
middle-neg x y = ap half (sym (neg_ℤ-+ℤ x y)) ∙ quot_neg (x +ℤ y) 2

alone-neg : (x m : ℤ) → neg_ℤ x +ℤ half (neg_ℤ m) ≡ neg_ℤ (x +ℤ half m)
alone-neg x m = ap (λ (z : ℤ). neg_ℤ x +ℤ z) (quot_neg m 2) ∙ sym (neg_ℤ-+ℤ x (half m))

-- 5, then 9, then the place
by_parts : (f f' u u' : Bool) (r r' : Answer ℤ) → f ≡ f' → u ≡ u' → r ≡ negated r'
    → lowest (5 when f ∷ 9 when u ∷ []) r ≡ negated (lowest (5 when f' ∷ 9 when u' ∷ []) r')
by_parts f f' u u' r r' e g h = rw (e, g, h) (sym (lowest_then (5 when f' ∷ 9 when u' ∷ []) r' (λ z. given (neg_ℤ z))))

-- ---- an entry and its mirror, or none of both
nth_paired : {A : Type 0} (R : A → A → Type 0) (xs ys : List A) → Each R xs ys → (k : ℕ) → Paired R (nth xs k) (nth ys k)
nth_paired R [] [] end k = both_none
nth_paired R (x ∷ xs) (y ∷ ys) (more r e) zero = both_given r
nth_paired {A = A} R [] (y ∷ ys) x'' k = elim x'' [ ]
nth_paired {A = A} R (x ∷ xs) [] x4 k = elim x4 [ ]
nth_paired R (x ∷ xs) (y ∷ ys) (more r e) (suc k) = nth_paired R xs ys e k

module _ {A : Type 0} (kind : Kind A) (R : A → A → Type 0) (K : KindTurns kind R) (opposite : A → A) (opp : (x : A) → R (opposite x) x) (a b d : A) where
  abbrev far : List A
  far = stepped kind (opposite a) (opposite b) (opposite d)

  abbrev near : List A
  near = stepped kind a b d

  abbrev H : Axis A
  H = here kind opposite a b d

  abbrev M : Axis A
  M = there kind opposite a b d

  entries : Each R far near
  entries = stepped-turned kind R K (opposite a) (opposite b) (opposite d) a b d (opp a) (opp b) (opp d)

  lengths : length far ≡ length near
  lengths = each-length far near entries

  admits : axis_admitted kind (opposite a) (opposite b) (opposite d) ≡ axis_admitted kind a b d
  admits = admitted-turned kind R K (opposite a) (opposite b) (opposite d) a b d (opp a) (opp b) (opp d)

  leads : against kind (opposite a) (opposite b) (opposite d) ≡ against kind a b d
  leads = against-turned kind R K (opposite a) (opposite b) (opposite d) a b d (opp a) (opp b) (opp d)

  finds : (method : RoundingMethod) (v : A) → rule.search kind.numbers (opposite v) (turned method) far ≡ rule.search kind.numbers v method near
  finds method v = search-turned kind.numbers R K.turns far near entries (opposite v) v (opp v) method

  lacks : (method : RoundingMethod) (v : A) → (find_there kind opposite a b d method).unsought (opposite v) ≡ (find_here kind opposite a b d method).unsought v
  lacks method v = rw (K.turns.equal_turns (opp v) (opp v), lengths, exact_stays method) refl

  counts : count_answer M ≡ count_answer H
  unfolding count_answer
  counts = rw (admits, leads, lengths) refl

  fits : (s : Segment A) → fit_in M (across opposite s) ≡ fit_in H s
  fits (exact v) = K.admitted_turns (opp v)
  fits (center_of v) = K.admitted_turns (opp v)
  fits last = refl

  sizes : segment_size M ≡ segment_size H
  unfolding segment_size
  sizes = rw (admits, leads, lengths) refl

  indices : (method : RoundingMethod) (s : Segment A) → segment_index_of M (find_there kind opposite a b d method) (across opposite s) ≡ segment_index_of H (find_here kind opposite a b d method) s
  unfolding segment_index_of
  indices method (exact v) = rw (admits, K.admitted_turns (opp v), leads, lacks method v, finds method v, lengths) refl
  indices method (center_of v) = rw (admits, K.admitted_turns (opp v), leads, lacks method v, finds method v, lengths) refl
  indices method last = rw (admits, leads, lengths) refl

  marks-same : (m : ℕ) → length (M.marks m) ≡ length (H.marks m)
  marks-same m = each-length (M.marks m) (H.marks m) (marks-turned kind R K (opposite a) (opposite b) (opposite d) a b d (opp a) (opp b) (opp d) m)

  key_points : (m : ℕ) (old old' : List A) → BothLong (unmarked H m) (length (H.marks m)) old (length (M.marks m)) old' → (segment_key_points M (length (M.marks m)) m old').0 ≡ (segment_key_points H (length (H.marks m)) m old).0
  unfolding segment_key_points
  key_points m old old' h =
      rw (admits, leads, marks-same m, lengths)
      (last-same (unmarked H m) 13 (ltb (length old') (length (H.marks m))) (ltb (length old) (length (H.marks m))) (given (length (H.marks m))) (λ e. sym (rw (marks-same m) at (h e))))

  -- ---- places, from those of values and their mirrors
  module _ (spots : axis_admitted kind a b d ≡ true → (v w : A) → R w v → kind.admitted v ≡ true → (limit : Limit)
      → step_spot kind (opposite a) (opposite b) (opposite d) w (mirrored limit) ≡ place.negated (step_spot kind a b d v limit))
      (entry-fit : (n : ℕ) → Stands H n → (k : ℕ) (w : A) → nth near k ≡ given w → kind.admitted w ≡ true) where
    module _ {n : ℕ} (s : Stands H n) (limit : Limit) where
      starts : (v w : A) → R w v → kind.admitted v ≡ true → start M w (mirrored limit) ≡ place.negated (start H v limit)
      starts v w r f =
          ap (λ (k : ℕ). step_spot kind (opposite a) (opposite b) (opposite d) w (narrowed k (mirrored limit))) lengths
          ∙ ap (step_spot kind (opposite a) (opposite b) (opposite d) w) (narrow_neg (length near) limit)
          ∙ spots s.admitted v w r f (narrowed (length near) limit)

      module _ (v : A) (f : kind.admitted v ≡ true) where
        begun : start M (opposite v) (mirrored limit) ≡ place.negated (start H v limit)
        begun = starts v (opposite v) (opp v) f

        margins : margin (length far) (mirrored limit) ≡ neg_ℤ (margin (length near) limit)
        margins = ap (λ (k : ℕ). margin k (mirrored limit)) lengths ∙ margin-neg (length near) limit

        middles : (x y : Answer A) → Paired R x y → ((w : A) → y ≡ given w → kind.admitted w ≡ true) → middle M (opposite v) (mirrored limit) x ≡ negated (middle H v limit y)
        middles (given w) (given w') (both_given r) g =
            rw (begun, starts w' w r (g w' refl), number-neg (start H v limit), number-neg (start H w' limit)) (ap given (middle-neg (number (start H v limit)) (number (start H w' limit))))
        middles none none both_none g =
            rw (begun, number-neg (start H v limit), margins) (ap given (alone-neg (number (start H v limit)) (margin (length near) limit)))
        middles (given w) none x5 g = elim x5 [ ]
        middles (given w) (refused k) x6 g = elim x6 [ ]
        middles none (given w') x5 g = elim x5 [ ]
        middles none (refused k) x6 g = elim x6 [ ]
        middles (refused m) (given w') x6 g = elim x6 [ ]
        middles (refused m) none x7 g = elim x7 [ ]
        middles (refused m) (refused k) both_refused g = refl

        afters : (x y : Answer A) → Paired R x y → ((w : A) → y ≡ given w → kind.admitted w ≡ true) → after_beyond M (mirrored limit) x ≡ after_beyond H limit y
        afters (given w) (given w') (both_given r) g = ap is_beyond (starts w' w r (g w' refl)) ∙ beyond_neg (start H w' limit)
        afters none none both_none g = refl
        afters (given w) none x5 g = elim x5 [ ]
        afters (given w) (refused k) x6 g = elim x6 [ ]
        afters none (given w') x5 g = elim x5 [ ]
        afters none (refused k) x6 g = elim x6 [ ]
        afters (refused m) (given w') x6 g = elim x6 [ ]
        afters (refused m) none x7 g = elim x7 [ ]
        afters (refused m) (refused k) both_refused g = refl

      -- the successors
      behind : (i : Answer ℕ) → Paired R (entry_after M i) (entry_after H i)
      behind (given k) = nth_paired R far near entries (suc k)
      behind none = both_none
      behind (refused m) = both_refused

      pair_by : (u u' : Bool) (i i' : Answer ℕ) → u ≡ u' → i ≡ i' → Paired R (cond u none (entry_after M i)) (cond u' none (entry_after H i'))
      pair_by u u' i i' e g = subst (λ (x : Bool). Paired R (cond x none (entry_after M i)) (cond u' none (entry_after H i'))) (sym e) (subst (λ (x : Answer ℕ). Paired R (cond u' none (entry_after M x)) (cond u' none (entry_after H i'))) (sym g) (go u'))
        where
          go : (t : Bool) → Paired R (cond t none (entry_after M i')) (cond t none (entry_after H i'))
          go true = both_none
          go false = behind i'

      succeeds : (method : RoundingMethod) (v : A) → Paired R (successor M (find_there kind opposite a b d method) (opposite v)) (successor H (find_here kind opposite a b d method) v)
      succeeds method v = pair_by _ _ _ _ (lacks method v) (finds method v)

      next-fit : (method : RoundingMethod) (v w : A) → successor H (find_here kind opposite a b d method) v ≡ given w → kind.admitted w ≡ true
      next-fit method v w = go ((find_here kind opposite a b d method).unsought v) ((find_here kind opposite a b d method).index v)
        where
          go : (t : Bool) (i : Answer ℕ) → cond t none (entry_after H i) ≡ given w → kind.admitted w ≡ true
          go true i e = absurd (not_none e)
          go false (given k) e = entry-fit n s (suc k) w e
          go false none e = absurd (not_none e)
          go false (refused m) e = absurd (not-both (sym e))

      placed-turned : (method : RoundingMethod) (x : Segment A) → fit_in H x ≡ true
          → placed_answer M (find_there kind opposite a b d method) (across opposite x) (mirrored limit) ≡ negated (placed_answer H (find_here kind opposite a b d method) x limit)
      unfolding placed_answer
      placed-turned method (exact v) f =
          by_parts _ (is_beyond (start H v limit)) false false _ (given (number (start H v limit))) (ap is_beyond (begun v f) ∙ beyond_neg (start H v limit)) refl (ap given (ap number (begun v f) ∙ number-neg (start H v limit)))
      placed-turned method (center_of v) f =
          let x = successor M (find_there kind opposite a b d method) (opposite v) in
          let y = successor H (find_here kind opposite a b d method) v in
          by_parts
          (is_beyond (start M (opposite v) (mirrored limit)) || after_beyond M (mirrored limit) x)
          (is_beyond (start H v limit) || after_beyond H limit y)
          ((find_there kind opposite a b d method).unsought (opposite v))
          ((find_here kind opposite a b d method).unsought v)
          (middle M (opposite v) (mirrored limit) x)
          (middle H v limit y)
          (ap₂ (λ (t u : Bool). t || u) (ap is_beyond (begun v f) ∙ beyond_neg (start H v limit)) (afters v f x y (succeeds method v) (next-fit method v)))
          (lacks method v)
          (middles v f x y (succeeds method v) (next-fit method v))
      placed-turned method last f = refl

    module _ (method : RoundingMethod) (x : Segment A) (limit : Limit) where
      abbrev Place : Type 0
      Place = segment_place M (find_there kind opposite a b d method) (across opposite x) (mirrored limit) ≡ negated (segment_place H (find_here kind opposite a b d method) x limit)

      -- both are refused alike
      alike : {n : ℕ} → refused n ≡ segment_place M (find_there kind opposite a b d method) (across opposite x) (mirrored limit) → refused n ≡ segment_place H (find_here kind opposite a b d method) x limit → Place
      alike e f = sym e ∙ ap negated f

      same-fit : (M.admitted && fit_in M (across opposite x)) ≡ (H.admitted && fit_in H x)
      same-fit = rw (admits, fits x) refl

      places : Place
      places = go (H.admitted && fit_in H x) refl (limit_admitted limit) refl
        where
          listed : (f : (H.admitted && fit_in H x) ≡ true) → limit_admitted limit ≡ true → (count_answer H ≡ given H.count) ⊎ ((n : ℕ) × (count_answer H ≡ refused n)) → Place
          listed f l (inl c) =
              sym (place_is M (find_there kind opposite a b d method) (across opposite x) (mirrored limit) (same-fit ∙ f) (limit-neg limit ∙ l) (stands M (few_enough kind (opposite a) (opposite b) (opposite d)) (sym (counts ∙ c))))
              ∙ placed-turned (stands H (few_enough kind a b d) (sym c)) limit method x (both_true H.admitted (fit_in H x) f).1
              ∙ ap negated (place_is H (find_here kind opposite a b d method) x limit f l (stands H (few_enough kind a b d) (sym c)))
          listed f l (inr c) =
              let ok = (both_true H.admitted (fit_in H x) f).0 in
              alike
              (place-stopped M (find_there kind opposite a b d method) (across opposite x) (mirrored limit) (same-fit ∙ f) (limit-neg limit ∙ l) (admits ∙ ok) (sym (counts ∙ c.1)))
              (place-stopped H (find_here kind opposite a b d method) x limit f l ok (sym c.1))

          go : (t : Bool) → (H.admitted && fit_in H x) ≡ t → (u : Bool) → limit_admitted limit ≡ u → Place
          go false f u l =
              alike (place_unfit M (find_there kind opposite a b d method) (across opposite x) (mirrored limit) (same-fit ∙ f)) (place_unfit H (find_here kind opposite a b d method) x limit f)
          go true f false l =
              alike
              (place_unlimited M (find_there kind opposite a b d method) (across opposite x) (mirrored limit) (same-fit ∙ f) (limit-neg limit ∙ l))
              (place_unlimited H (find_here kind opposite a b d method) x limit f l)
          go true f true l = listed f l (counted_or_stopped H)

    mirrored_segments : {Turned : List A → List A → Type 0} → steps.Mirrored kind opposite Turned a b d → Mirrored kind opposite a b d Turned
    mirrored_segments s = record { sizes = sizes; indices = indices; places = places; key_points = key_points; marks = s.marks }

-- ---- whole numbers
pub whole-mirror : (a b d : ℤ) → WholeMirrored a b d
whole-mirror a b d = mirrored_segments whole Opposite lists.whole_kind neg_ℤ (λ x. refl) a b d spots (λ n s k w e. (step-regular a b d).fit s k e) (lists.whole-mirror a b d)
  where
    spots : axis_admitted whole a b d ≡ true → (v w : ℤ) → w ≡ neg_ℤ v → whole_admitted v ≡ true → (limit : Limit)
        → step_spot whole (neg_ℤ a) (neg_ℤ b) (neg_ℤ d) w (mirrored limit) ≡ place.negated (step_spot whole a b d v limit)
    spots h v w r f limit =
        let ends = (both_true (whole_admitted a && whole_admitted b) (whole_admitted d) h).0 in
        ap (λ (z : ℤ). step_spot whole (neg_ℤ a) (neg_ℤ b) (neg_ℤ d) z (mirrored limit)) r
        ∙ whole-spot limit a b v (both_true (whole_admitted a) (whole_admitted b) ends).0 (both_true (whole_admitted a) (whole_admitted b) ends).1 f

-- ---- reals
pub real-mirror : (a b d : Float) → RealMirrored a b d
real-mirror a b d = mirrored_segments real Across lists.real_kind neg (λ x. inl refl) a b d (λ h v w r f limit. real-spot limit a b v w r) (λ n s k w e. refl) (lists.real-mirror a b d)
