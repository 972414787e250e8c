-- The rules of the calls, return by return, for both kinds of numbers. Assumes nothing.
use mathlib.Core.Path.{◌≡◌, refl, sym, ap, subst, ◌∙◌}
use mathlib.Core.Bool.{Bool, true, false, cond, not, ◌||◌, and-false}
use mathlib.Core.List.{List, [], ◌∷◌, ◌++◌}
use Prim.Native.Nat.{ℕ, ◌≤◌, ◌<◌}
use native.Mathlib.Omega.{arith}
use borrow.Author.Tests.{lt-ltb, le-ltb, ltb-false}
use lib.Dec.{ltb}
use lib.IntN.{ℤ}
use lib.ListN.{length, drop}
use Rattle.std.specs.Prelude.{Option, Some, None, MatchOption, IsSomeAnd, Result, Ok, Err, IsErr, IsErrAnd, MatchResult}
use Rattle.std.proofs.Common.{rules}
use Rattle.ranged1d.specs.Refusals.{number_of}
use Rattle.ranged1d.specs.Told.{tell, tell_option, tell_found}
use Rattle.ranged1d.specs.declared.Refusal.{Refusal}
use Rattle.ranged1d.specs.Answer.{Answer, given, refused, Reason, ◌when◌, lowest, written, and_then, list_written}
use Rattle.ranged1d.specs.Admitted.{reading_admitted}
use Rattle.ranged1d.specs.declared.Limit.{Limit}
use Rattle.ranged1d.proofs.Answers.{given_is}
use Rattle.ranged1d.proofs.Lowest.{given_tests, lowest_then}
use Rattle.discrete.specs.Index.{pixel_index}
use Rattle.real.specs.Place.{number, real_place_reasons}
use Rattle.search.specs.declared.RoundingMethod.{RoundingMethod}
use Rattle.search.specs.Search as rule
use Rattle.linspace.specs.List.{Kind, most, stepped, against, too_long, axis_admitted}
use Rattle.linspace.specs.Calls.{nth, nth_of, unlisted, step_values, step_size, step_from_index, step_index_of, step_spot, step_place, step_reading, step_marks, step_key_points, unserved}

-- ---- a refusal that is handed on
pub handed : {A : Type 0} (r : Result A Refusal) (e : Refusal) → IsErr r × IsErrAnd r (λ x. x ≡ e) → tell r ≡ refused (number_of e)
handed (Ok x) e h = search rules
handed (Err x) e h = ap (λ (y : Refusal). refused (number_of y)) h.1

pub handed_found : {A : Type 0} (r : Result (Option A) Refusal) (e : Refusal) → IsErr r × IsErrAnd r (λ x. x ≡ e) → tell_found r ≡ refused (number_of e)
handed_found (Ok x) e h = search rules
handed_found (Err x) e h = ap (λ (y : Refusal). refused (number_of y)) h.1

pub handed_on : {A : Type 0} (P : A → Type 0) (Q : Refusal → Type 0) (r : Result A Refusal) (e : Refusal) → IsErr r × IsErrAnd r (λ x. x ≡ e) → Q e → MatchResult r P Q
handed_on P Q (Ok x) e h q = search rules
handed_on P Q (Err x) e h q = subst Q (sym h.1) q

-- ---- what is found, with something beside it
pub told_map : {A B : Type 0} (r : Option A) (q : Option B) (g : A → B) → MatchOption r (q ≡ None) (λ x. IsSomeAnd q (λ y. y ≡ g x)) → tell_option q ≡ and_then (tell_option r) (λ x. given (g x))
told_map None q g h = ap tell_option h
told_map (Some x) None g h = search rules
told_map (Some x) (Some y) g h = ap given h

-- the same axis told twice
pub same-axis : {A B : Type 0} (f : A → A → A → B) {a a' b b' d d' : A} → (a ≡ a') × (b ≡ b') × (d ≡ d') → f a b d ≡ f a' b' d'
same-axis f e = rw (e.0, e.1, e.2) refl

-- an answer once the entries are counted
abbrev pub once_listed : {B : Type 0} → Answer ℕ → Answer B → Answer B
once_listed counts r = and_then counts (λ n. r)

-- a place that is answered once the entries are counted
abbrev pub place_listed : Answer ℤ → Answer ℕ → Answer ℤ
place_listed place counts = and_then place (λ z. once_listed counts (given z))

-- 7 for one reason or another
seven : (t u : Bool) (r : Answer ℕ) → lowest (7 when (t || u) ∷ []) r ≡ lowest (7 when t ∷ 7 when u ∷ []) r
seven true u r = refl
seven false u r = refl

module _ {A : Type 0} (kind : Kind A) (a b d : A) where
  -- the number of entries, or 6 or 7
  abbrev pub counts : Answer ℕ
  counts = lowest (unlisted kind a b d) (given (length (stepped kind a b d)))

  pub counts_against : against kind a b d ≡ true → refused 6 ≡ counts
  counts_against e = rw e refl

  pub counts_long : against kind a b d ≡ false → too_long kind a b d ≡ true → refused 7 ≡ counts
  counts_long e l = rw (e, l) refl

  pub counts_all : against kind a b d ≡ false → too_long kind a b d ≡ false → given (length (stepped kind a b d)) ≡ counts
  counts_all e l = rw (e, l) refl

  -- what is known once they are counted
  pub record Counted (n : ℕ) : Type 0 where
    pub onward : against kind a b d ≡ false
    pub short : too_long kind a b d ≡ false
    pub all : n ≡ length (stepped kind a b d)
    pub few : n ≤ most

  pub counted : {n : ℕ} → counts ≡ given n → Counted n
  counted h =
      let g = given_tests (unlisted kind a b d) (given (length (stepped kind a b d))) h in
      let s = given_is g.1 in
      record { onward = g.0.0; short = g.0.1.0; all = sym s; few = omega (arith, s, ltb-false most (length (stepped kind a b d)) g.0.1.0) }

  -- an answer with 6 and 7 in front of it, by the count
  once_listed_lem : {B : Type 0} {s : Answer ℕ} → counts ≡ s → (r : Answer B) → lowest (unlisted kind a b d) r ≡ once_listed s r
  once_listed_lem e r =
      sym (lowest_then (unlisted kind a b d) (given (length (stepped kind a b d))) (λ n. r))
      ∙ ap (λ (s : Answer ℕ). once_listed s r) e

  -- the place by the ends alone
  abbrev ends_reasons : A → Limit → List Reason
  ends_reasons v limit = 1 when not (kind.admitted v) ∷ real_place_reasons (kind.float a) (kind.float b) (kind.float v) limit

  abbrev pub ends_place : A → Limit → Answer ℤ
  ends_place v limit = lowest (ends_reasons v limit) (given (number (step_spot kind a b d v limit)))

  -- ---- 1: an end or the step is not admitted
  module _ (h : axis_admitted kind a b d ≡ false) where
    pub size-refused : ◌≡◌ {A = Answer ℕ} (refused 1) (step_size kind a b d)
    unfolding step_size
    size-refused = rw h refl

    pub from-refused : (k : ℕ) → ◌≡◌ {A = Answer A} (refused 1) (step_from_index kind a b d k)
    unfolding step_from_index
    from-refused k = rw h refl

    pub values-refused : (old : List A) → ◌≡◌ {A = Answer ℕ × List A} (refused 1, old) (step_values kind a b d old)
    unfolding step_values
    values-refused old = rw h refl

    pub index-refused : (v : A) (method : RoundingMethod) → ◌≡◌ {A = Answer ℕ} (refused 1) (step_index_of kind a b d v method)
    unfolding step_index_of
    index-refused v method = rw h refl

    pub place-refused : (v : A) (limit : Limit) → ◌≡◌ {A = Answer ℤ} (refused 1) (step_place kind a b d v limit)
    unfolding step_place
    place-refused v limit = rw h refl

    pub reading-refused : (x : ℤ) (limit : Limit) → ◌≡◌ {A = Answer A} (refused 1) (step_reading kind a b d x limit)
    unfolding step_reading
    reading-refused x limit = rw h refl

    pub points_refused : (m : ℕ) (old : List A) → ◌≡◌ {A = Answer ℕ × List A} (refused 1, old) (step_key_points kind a b d m old)
    unfolding step_key_points
    points_refused m old = rw h refl

  pub index_value_refused : (v : A) (method : RoundingMethod) → kind.admitted v ≡ false → ◌≡◌ {A = Answer ℕ} (refused 1) (step_index_of kind a b d v method)
  unfolding step_index_of
  index_value_refused v method u = rw (u, and-false (axis_admitted kind a b d)) refl

  -- ---- an axis that is admitted
  module _ (h : axis_admitted kind a b d ≡ true) where
    pub size_is : counts ≡ step_size kind a b d
    unfolding step_size
    size_is = rw h refl

    pub reading-outside : (x : ℤ) (limit : Limit) → reading_admitted x limit ≡ false → ◌≡◌ {A = Answer A} (refused 2) (step_reading kind a b d x limit)
    unfolding step_reading
    reading-outside x limit u = rw (h, u) refl

    pub points_none : (m : ℕ) (old : List A) → unserved kind a b d m ≡ true → ◌≡◌ {A = Answer ℕ × List A} (refused 3, old) (step_key_points kind a b d m old)
    unfolding step_key_points
    points_none m old e = rw (h, e) refl

    -- ---- by the number of entries
    pub counted_by : {n : ℕ} → step_size kind a b d ≡ given n → Counted n
    counted_by q = counted (size_is ∙ q)

    module _ {s : Answer ℕ} (q : step_size kind a b d ≡ s) where
      e : counts ≡ s
      e = size_is ∙ q

      pub from_is : (k : ℕ) → once_listed s (nth (stepped kind a b d) k) ≡ step_from_index kind a b d k
      unfolding step_from_index
      from_is k = rw h (sym (once_listed_lem e (nth (stepped kind a b d) k)))

      pub index_is : (v : A) (method : RoundingMethod) → kind.admitted v ≡ true → kind.numbers.equal v v ≡ true
          → once_listed s (rule.search kind.numbers v method (stepped kind a b d)) ≡ step_index_of kind a b d v method
      unfolding step_index_of
      index_is v method u f = rw (h, u, f) (sym (once_listed_lem e (rule.search kind.numbers v method (stepped kind a b d))))

      pub place_is : (v : A) (limit : Limit) {r : Answer ℤ} → ends_place v limit ≡ r → place_listed r s ≡ step_place kind a b d v limit
      unfolding step_place
      place_is v limit f =
          let ends = ends_reasons v limit in
          let z = number (step_spot kind a b d v limit) in
          ap (λ (r : Answer ℤ). place_listed r s) (sym f) ∙ rw h (lowest_then ends (given z) (λ z. once_listed s (given z)) ∙ ap (lowest ends) (sym (once_listed_lem e (given z))))

      pub reading_is : (x : ℤ) (limit : Limit) → reading_admitted x limit ≡ true
          → once_listed s (nth_of (stepped kind a b d) (pixel_index x limit (length (stepped kind a b d)))) ≡ step_reading kind a b d x limit
      unfolding step_reading pixel_index
      reading_is x limit u = rw (h, u) (sym (once_listed_lem e _))

      -- lists that are written
      values_by : (old : List A) → step_values kind a b d old ≡ written (once_listed s (lowest (7 when ltb (length old) (length (stepped kind a b d)) ∷ []) (given (length (stepped kind a b d))))) (stepped kind a b d) old
      unfolding step_values
      values_by old =
          let short = ltb (length old) (length (stepped kind a b d)) in
          let whole = given (length (stepped kind a b d)) in
          rw h (ap (λ (r : Answer ℕ). written r (stepped kind a b d) old) (ap (cond (against kind a b d) (refused 6)) (seven (too_long kind a b d) short whole) ∙ once_listed_lem e (lowest (7 when short ∷ []) whole)))

      points_by_lem : (m : ℕ) (old : List A) → unserved kind a b d m ≡ false
          → step_key_points kind a b d m old ≡ written (once_listed s (lowest (13 when ltb (length old) (length (step_marks kind a b d m)) ∷ []) (given (length (step_marks kind a b d m))))) (step_marks kind a b d m) old
      unfolding step_key_points
      points_by_lem m old some = rw (h, some) (ap (λ (r : Answer ℕ). written r (step_marks kind a b d m) old) (once_listed_lem e _))

    module _ (old : List A) where
      pub values-stopped : {n : ℕ} → step_size kind a b d ≡ refused n → (refused n, old) ≡ step_values kind a b d old
      values-stopped e = sym (values_by e old)

      pub values-short : {n : ℕ} → step_size kind a b d ≡ given n → length old < n → (refused 7, old) ≡ step_values kind a b d old
      values-short {n} e l = sym (values_by e old ∙ rw (← (counted_by e).all, lt-ltb (length old) n l) refl)

      pub values-written : {n : ℕ} → step_size kind a b d ≡ given n → n ≤ length old → (given n, stepped kind a b d ++ drop n old) ≡ step_values kind a b d old
      values-written {n} e l = sym (values_by e old ∙ rw (← (counted_by e).all, le-ltb (length old) n l, ← (counted_by e).all) refl)

    module _ (m : ℕ) (old : List A) (some : unserved kind a b d m ≡ false) where
      pub points_stopped : {n : ℕ} → step_size kind a b d ≡ refused n → (refused n, old) ≡ step_key_points kind a b d m old
      points_stopped e = sym (points_by_lem e m old some)

      pub points_is : {n : ℕ} → step_size kind a b d ≡ given n → list_written (step_marks kind a b d m) old ≡ step_key_points kind a b d m old
      points_is e = sym (points_by_lem e m old some)

  -- ---- why there is no list, of an axis that is admitted or of another
  pub stops : {B : Type 0} (f : Answer ℕ → B) {s : Answer ℕ} {r : B} → step_size kind a b d ≡ s → (axis_admitted kind a b d ≡ true → f s ≡ r) → (axis_admitted kind a b d ≡ false → f (refused 1) ≡ r) → f s ≡ r
  stops f {s} {r} q t u = go (axis_admitted kind a b d) refl
    where
      go : (x : Bool) → axis_admitted kind a b d ≡ x → f s ≡ r
      go true h = t h
      go false h = ap f (sym q ∙ sym (size-refused h)) ∙ u h

  -- an axis whose entries are counted is admitted
  pub counts_admitted : {n : ℕ} → step_size kind a b d ≡ given n → axis_admitted kind a b d ≡ true
  counts_admitted {n} q = go (axis_admitted kind a b d) refl
    where
      apart : refused 1 ≡ given n → axis_admitted kind a b d ≡ true
      apart e = search rules

      go : (x : Bool) → axis_admitted kind a b d ≡ x → axis_admitted kind a b d ≡ true
      go true h = h
      go false h = apart (size-refused h ∙ q)
