-- Demand 3, whole: every clause of specs/Mirror, from the mirror theorems of the crates below. Assumes nothing.
use mathlib.Core.Path.{◌≡◌, refl, sym, ap, ◌∙◌, subst}
use mathlib.Core.Bool.{true, false}
use mathlib.Core.List.{List, [], map}
use Prim.Native.Nat.{ℕ}
use lib.IntN.{ℤ, pos, neg_ℤ}
use lib.ListN.{length}
use lib.Ieee.{Float, neg}
use Rattle.ranged1d.specs.Answer.{Answer, given, Reason, lowest, BothLong}
use Rattle.ranged1d.specs.Admitted.{ends_admitted}
use Rattle.ranged1d.specs.declared.Limit.{Limit}
use Rattle.real.specs.Mirror as film
use Rattle.real.proofs.Mirror as places
use Rattle.real.proofs.Relied.{exact}
use Rattle.numeric.specs.declared.Choice.{Choice}
use Rattle.ruler.specs.declared.Form.{Form}
use Rattle.numeric.specs.Marks.{no_step, step_of, marks, marks_by}
use Rattle.numeric.specs.Calls.{plan_reasons, key_points_reasons, whole_key_points}
use Rattle.numeric.specs.Mirror.{step_only}
use Rattle.numeric.proofs.Mirror as marks-mirror
use Rattle.numeric.proofs.Directed.{directed}
use Rattle.search.specs.Mirror.{end}
use Rattle.search.proofs.Mirror as searches
use Rattle.linspace.specs.List.{Kind, whole, real, stepped}
use Rattle.linspace.specs.Calls.{values_reasons, step_values, step_marks, step_key_points_reasons, step_key_points}
use Rattle.linspace.specs.Mirror as step
use Rattle.linspace.specs.Mirror.{Negated}
use Rattle.linspace.proofs.Mirror as steps
use Rattle.segmented.specs.Segments.{segment_key_points_reasons, segment_key_points}
use Rattle.segmented.specs.Axes.{stepped_axis}
use Rattle.segmented.specs.Mirror as segment
use Rattle.segmented.proofs.Mirror as segments
use Rattle.ruler.specs.Rule.{no_ruler, bytes_by, write_reasons_by, write_by, has_ruler, twisted}
use Rattle.ruler.specs.Mirror.{accepted, verdict, turned_form, other_number}
use Rattle.ruler.proofs.Mirror as rulers-mirror
use Rattle.mirror.specs.Mirror.{wrote, ruling, ruling_back, Rulers, TwistedRulers, marking, marking_back, Marks, Lists, StepMarks, SegmentMarks, Stepped, DemandThree}
use Rattle.mirror.proofs.Written.{accepted_is, accepted_tests, wrote_is, turned-wrote}

-- ---- rulers
module _ (f : Form) (a b : ℤ) (limit : Limit) (m : ℕ) where
  abbrev numbers : ℕ × ℕ
  numbers = (length (bytes_by f a b limit m), length (marks_by f.choice a b m))

  -- an accepted writer has a ruler, and has written its bytes
  ruled : (old : List ℕ) → verdict (write_by f a b limit m old).0 ≡ accepted → has_ruler a b limit m ≡ true
  unfolding write_by has_ruler
  ruled old e =
      let tests = accepted_tests numbers (write_reasons_by f a b limit m old) e in
      rw (tests.0, tests.1.0, tests.1.1.0)

  bytes-written : (old : List ℕ) → verdict (write_by f a b limit m old).0 ≡ accepted → wrote (λ x. x.0) (write_by f a b limit m old) ≡ bytes_by f a b limit m
  unfolding write_by
  bytes-written old e =
      wrote_is {A = ℕ × ℕ} (λ x. x.0) (lowest (write_reasons_by f a b limit m old) (given numbers)) numbers (bytes_by f a b limit m) old refl (accepted_is numbers (write_reasons_by f a b limit m old) e)

module _ (f : Form) (a b : ℤ) (limit : Limit) (m : ℕ) (old old' : List ℕ) (alike : BothLong (no_ruler a b limit m) (length (bytes_by f a b limit m)) old (length (bytes_by (turned_form f) (neg_ℤ a) (neg_ℤ b) (film.mirrored limit) m)) old') where
  verdicts : verdict (ruling_back f a b limit m old old').0 ≡ verdict (ruling f a b limit m old old').0
  verdicts = (rulers-mirror.mirror f a b limit m).same_verdict old old' alike

  back-written : verdict (ruling f a b limit m old old').0 ≡ accepted → wrote (λ x. x.0) (ruling_back f a b limit m old old') ≡ bytes_by (turned_form f) (neg_ℤ a) (neg_ℤ b) (film.mirrored limit) m
  back-written e = bytes-written (turned_form f) (neg_ℤ a) (neg_ℤ b) (film.mirrored limit) m old' (verdicts ∙ e)

  rulers : Rulers f a b limit m old old'
  rulers =
      record {
        verdicts = verdicts;
        match_exactly = λ e. rw (back-written e, bytes-written f a b limit m old e) ((rulers-mirror.mirror f a b limit m).match_exactly (ruled f a b limit m old e));
        one_half = (rulers-mirror.mirror f a b limit m).one_half;
        one_more_below = λ e g l. rw (back-written e, bytes-written f a b limit m old e) ((rulers-mirror.mirror f a b limit m).one_more_below (ruled f a b limit m old e) g l);
        one_more_above = λ e g l. rw (back-written e, bytes-written f a b limit m old e) ((rulers-mirror.mirror f a b limit m).one_more_above (ruled f a b limit m old e) g l);
      }

-- those that are handed a twist
twisted_rulers : (c : Choice) (t : ℕ) (a b : ℤ) (limit : Limit) (m : ℕ) (old old' : List ℕ)
    → BothLong (no_ruler a b limit m) (length (bytes_by (twisted c t) a b limit m)) old (length (bytes_by (twisted c (other_number t)) (neg_ℤ a) (neg_ℤ b) (film.mirrored limit) m)) old' → TwistedRulers c t a b limit m old old'
twisted_rulers c t a b limit m old old' alike =
    let here = rulers-mirror.twist_mirror c t a b limit m in
    let there = rulers-mirror.twist_mirror c (other_number t) (neg_ℤ a) (neg_ℤ b) (film.mirrored limit) m in
    record {
      verdicts = here.same_verdict old old' alike;
      here = λ h. here.known h old;
      back = λ h. there.known (rulers-mirror.other_small t h) old' ∙ ap (λ (f : Form). write_by f (neg_ℤ a) (neg_ℤ b) (film.mirrored limit) m old') (here.other h);
      rulers = λ h. rulers (twisted c t) a b limit m old old'
          (subst (λ (f : Form). BothLong (no_ruler a b limit m) (length (bytes_by (twisted c t) a b limit m)) old (length (bytes_by f (neg_ℤ a) (neg_ℤ b) (film.mirrored limit) m)) old') (here.other h) alike);
    }

-- ---- marks
of_step : (r : Answer (ℤ × ℕ)) → verdict r ≡ verdict (step_only r)
of_step r = rulers-mirror.verdict_then r (λ x. x.0)

module _ (a b : ℤ) (m : ℕ) where
  abbrev told : ℤ × ℕ
  told = (pos (step_of a b m), length (marks a b m))

  abbrev reasons : List ℤ → List Reason
  reasons old = key_points_reasons (ends_admitted a b) a b m (marks a b m) old

  served : (old : List ℤ) → verdict (whole_key_points a b m old).0 ≡ accepted → no_step a b m ≡ false
  unfolding whole_key_points
  served old e = (accepted_tests told (reasons old) e).1.0

  marks-written : (old : List ℤ) → verdict (whole_key_points a b m old).0 ≡ accepted → wrote (λ x. x.1) (whole_key_points a b m old) ≡ marks a b m
  unfolding whole_key_points
  marks-written old e =
      wrote_is {A = ℤ × ℕ} (λ x. x.1) (lowest (reasons old) (given told)) told (marks a b m) old refl (accepted_is told (reasons old) e)

module _ (a b : ℤ) (m : ℕ) (old old' : List ℤ) (alike : BothLong (plan_reasons (ends_admitted a b) a b m) (length (marks a b m)) old (length (marks (neg_ℤ a) (neg_ℤ b) m)) old') where
  same_step : step_only (marking_back a b m old old').0 ≡ step_only (marking a b m old old').0
  same_step = (marks-mirror.mirror a b m).same_verdict old old' alike

  marks-back : verdict (marking a b m old old').0 ≡ accepted → wrote (λ x. x.1) (marking_back a b m old old') ≡ marks (neg_ℤ a) (neg_ℤ b) m
  marks-back e =
      marks-written (neg_ℤ a) (neg_ℤ b) m old' (of_step (marking_back a b m old old').0 ∙ ap verdict same_step ∙ sym (of_step (marking a b m old old').0) ∙ e)

  whole_marks : Marks a b m old old'
  whole_marks =
      record {
        verdicts = same_step;
        match_exactly = λ e. rw (marks-back e, marks-written a b m old e) ((marks-mirror.mirror a b m).match_exactly (served a b m old e));
        one_half = (marks-mirror.mirror a b m).one_half;
        one_more_below = λ e f l. rw (marks-back e, marks-written a b m old e) ((marks-mirror.mirror a b m).one_more_below (served a b m old e) f l);
        one_more_above = λ e f l.
            rw (marks-back e, marks-written a b m old e, (marks-mirror.mirror a b m).same_step) ((marks-mirror.mirror a b m).one_more_above (served a b m old e) f l);
      }

-- ---- stepped axes: over either kind, from what is known of its list, its marks and its calls
module _ {A : Type 0} (kind : Kind A) (opposite : A → A) (Turned : List A → List A → Type 0) (nothing : Turned [] []) (a b d : A) where
  list_entries : (old old' : List A) → Turned (stepped kind (opposite a) (opposite b) (opposite d)) (stepped kind a b d)
      → (step_values kind (opposite a) (opposite b) (opposite d) old').0 ≡ (step_values kind a b d old).0 → Lists kind opposite Turned a b d old old'
  unfolding step_values
  list_entries old old' t e =
      turned-wrote Turned nothing (values_reasons kind a b d old) (values_reasons kind (opposite a) (opposite b) (opposite d) old') (stepped kind a b d) (stepped kind (opposite a) (opposite b) (opposite d)) old old' t e

  mark-entries : (m : ℕ) (old old' : List A) → Turned (step_marks kind (opposite a) (opposite b) (opposite d) m) (step_marks kind a b d m)
      → (step_key_points kind (opposite a) (opposite b) (opposite d) m old').0 ≡ (step_key_points kind a b d m old).0 → StepMarks kind opposite Turned a b d m old old'
  unfolding step_key_points
  mark-entries m old old' t e =
      turned-wrote Turned nothing (step_key_points_reasons kind a b d m old) (step_key_points_reasons kind (opposite a) (opposite b) (opposite d) m old') (step_marks kind a b d m) (step_marks kind (opposite a) (opposite b) (opposite d) m) old old' t e

  segment_entries : (m : ℕ) (old old' : List A) → Turned (step_marks kind (opposite a) (opposite b) (opposite d) m) (step_marks kind a b d m)
      → (segment_key_points (stepped_axis kind (opposite a) (opposite b) (opposite d)) (length (step_marks kind (opposite a) (opposite b) (opposite d) m)) m old').0
      ≡ (segment_key_points (stepped_axis kind a b d) (length (step_marks kind a b d m)) m old).0 → SegmentMarks kind opposite Turned a b d m old old'
  unfolding segment_key_points
  segment_entries m old old' t e =
      turned-wrote Turned nothing (segment_key_points_reasons (stepped_axis kind a b d) m old) (segment_key_points_reasons (stepped_axis kind (opposite a) (opposite b) (opposite d)) m old') (step_marks kind a b d m) (step_marks kind (opposite a) (opposite b) (opposite d) m) old old' t e

-- from what is known of stepped axes, and of segments over them, of either kind of numbers
stepped-axis : {A : Type 0} (kind : Kind A) (opposite : A → A) (Turned : List A → List A → Type 0) → Turned [] [] → (a b d : A) → step.Mirrored kind opposite Turned a b d → segment.Mirrored kind opposite a b d Turned → Stepped kind opposite Turned a b d
stepped-axis kind opposite Turned nothing a b d k s =
    record {
      lists = λ old old' h. list_entries kind opposite Turned nothing a b d old old' k.lists (k.values old old' h);
      step_marks_lem = λ m old old' h. mark-entries kind opposite Turned nothing a b d m old old' (k.marks m) (k.key_points m old old' h);
      places = k.places;
      searches = k.searches;
      segment_indices = s.indices;
      segment_places = s.places;
      segment_marks_lem = λ m old old' h. segment_entries kind opposite Turned nothing a b d m old old' (s.marks m) (s.key_points m old old' h);
    }

whole_steps : (a b d : ℤ) → Stepped whole neg_ℤ (λ new old. new ≡ map neg_ℤ old) a b d
whole_steps a b d = stepped-axis whole neg_ℤ (λ new old. new ≡ map neg_ℤ old) refl a b d (steps.whole-mirror a b d) (segments.whole-mirror a b d)

real_steps : (a b d : Float) → Stepped real neg Negated a b d
real_steps a b d = stepped-axis real neg Negated end a b d (steps.real-mirror a b d) (segments.real-mirror a b d)

-- ---- the theorem
pub demand_three : DemandThree
demand_three =
    record {
      rulers = rulers;
      twisted_rulers = twisted_rulers;
      whole_marks = whole_marks;
      whole_places = λ a b v limit. (places.mirror limit).whole_places a b v;
      exact_places = λ a b v limit. (exact limit).mirror a b v;
      real_places = λ a b v limit. (places.mirror limit).real_places a b v;
      real_readings = λ a b x limit. (places.mirror limit).readings a b x;
      directed_readings_lem = directed.mirror;
      whole_searches = (searches.mirror).whole_searches;
      real_searches = (searches.mirror).real_searches;
      whole_steps = whole_steps;
      real_steps = real_steps;
    }
