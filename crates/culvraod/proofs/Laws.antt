-- Laws of several crates, each over the rules alone: the guide names them beside the sentences that they stand for. Assumes nothing.
use mathlib.Core.Path.{◌≡◌, refl, sym, ap, ◌∙◌}
use mathlib.Core.Bool.{Bool, true, false, not, ◌&&◌, ◌||◌}
use mathlib.Core.List.{List, [], ◌∷◌, ◌++◌}
use Prim.Native.Nat.{ℕ, suc, ◌*◌, ◌^◌, ◌-◌, ◌≤◌, ◌<◌}
use native.Mathlib.Omega.{arith}
use lib.Dec.{eqb, ltb}
use lib.IntN.{ℤ, pos, nat_abs, ◌+ℤ◌}
use lib.ListN.{length, drop}
use lib.Ieee.{Float, nan, inf, fin, up, down}
use borrow.Author.Tests.{eq-eqb, ne_eqb, ltb-true, lt-ltb, le-ltb, le-leb, lt-leb}
use Rattle.ranged1d.specs.Answer.{Answer, given, none, refused, ◌when◌, lowest}
use Rattle.ranged1d.specs.Admitted.{whole_admitted, limit_admitted}
use Rattle.ranged1d.specs.declared.Limit.{Limit}
use Rattle.rounding.proofs.Sizes.{AtLeast}
use Rattle.rounding.proofs.Steps.{LessThan}
use Rattle.real.specs.Place.{real_place, whole_place, spot_answer}
use Rattle.numeric.specs.declared.KeyPoints.{KeyPoints}
use Rattle.numeric.specs.Marks.{list_of}
use Rattle.numeric.specs.Whole.{count_of, whole_size}
use Rattle.numeric.specs.Calls.{whole_plan, element}
use Rattle.numeric.proofs.Lists.{length_of}
use Rattle.linspace.specs.List.{Kind, whole, real, stepped, against, too_long, axis_admitted}
use Rattle.linspace.specs.Calls.{has_entries, step_size, step_key_points}
use Rattle.linspace.specs.RealSteps.{plus_step, after}
use Rattle.linspace.proofs.Marks.{spaced, marks-none}
use Rattle.linspace.proofs.RealMarks.{marks-are}
use Rattle.linspace.proofs.WholeRules.{ends-place}
use Rattle.segmented.specs.Values.{Segment}
use Rattle.segmented.specs.declared.SegmentValue.TheVariants.{Exact as exact, CenterOf as center_of, Last as last}
use Rattle.segmented.specs.Segments.{Axis, Finder, fit_in, segment_index_of}
use Rattle.segmented.specs.Axes.{most_values, whole_axis, stepped_axis}
use Rattle.segmented.specs.Steps.{standing, count_answer, Stands}
use Rattle.segmented.specs.Regular.{few_enough}
use Rattle.segmented.proofs.WholeRules.{counted}
use Rattle.linspace.proofs.Walks.{nth_past}
use Rattle.ruler.specs.Bytes.{head_long}
use Rattle.ruler.specs.Rule.{is_ruler, index_of, has_mark, record_at, nowhere, record_in}
use Rattle.ruler.specs.Steps.{form_of}
use Rattle.ruler.proofs.Reader.{Known, known-marks}
use Rattle.float.specs.Calls.{printable, label_print}

-- ---- labels: 11 and 12, and which numbers have a label
pub print_11 : (n : Float) (h e : ℕ) (old : List ℕ) → printable n ≡ false → ◌≡◌ {A = Answer ℕ × List ℕ} (refused 11, old) (label_print n h e old)
unfolding label_print
print_11 n h e old a = rw a

pub print_12h : (n : Float) (h e : ℕ) (old : List ℕ) → printable n ≡ true → 10 < h → ◌≡◌ {A = Answer ℕ × List ℕ} (refused 12, old) (label_print n h e old)
unfolding label_print
print_12h n h e old a l = rw (a, lt-leb h 10 l)

pub print_12e : (n : Float) (h e : ℕ) (old : List ℕ) → printable n ≡ true → h ≤ 10 → 20 < e → ◌≡◌ {A = Answer ℕ × List ℕ} (refused 12, old) (label_print n h e old)
unfolding label_print
print_12e n h e old a l k = rw (a, le-leb h 10 l, lt-leb e 20 k)

pub admit_yes : (n : Float) → LessThan (2 ^ 53) n → true ≡ printable n
unfolding printable
admit_yes nan h = elim h [ ]
admit_yes (inf _) h = elim h [ ]
admit_yes (fin s m e) h = sym (lt-ltb (m * up e) (2 ^ 53 * down e) h)

pub admit_no : (n : Float) → AtLeast (2 ^ 53) n → false ≡ printable n
unfolding printable
admit_no nan h = refl
admit_no (inf s) h = refl
admit_no (fin s m e) h = sym (le-ltb (m * up e) (2 ^ 53 * down e) h)

-- ---- marks of a real stepped axis that is not refused: none of a list without entries; else the sums at the marks of the indices
module _ (a b d : Float) (m : ℕ) (old : List Float) where
  abbrev l : List Float
  l = stepped real a b d

  module _ (z : (eqb m 0 && has_entries l) ≡ false) (on : against real a b d ≡ false) (few : length l ≤ 65536) where
    pub points_empty : length l ≡ 0 → step_key_points real a b d m old ≡ (given 0, old)
    unfolding step_key_points
    points_empty h = rw (z, on, le-ltb 65536 (length l) few, marks-none real.nil l m h, le-ltb (length old) 0 (omega arith)) refl

    module _ (s : has_entries l ≡ true) {p : KeyPoints} (e : whole_plan (pos 0) (pos (length l - 1)) m ≡ given p) where
      pub points_written : p.count ≤ length old → step_key_points real a b d m old ≡ (given p.count, list_of (λ k. after (plus_step d) (k * nat_abs p.step) a) p.count ++ drop p.count old)
      unfolding step_key_points
      points_written h =
          rw (z, on, le-ltb 65536 (length l) few, marks-are a b d m refl (spaced (length l) m (ltb-true 0 (length l) s) few e), length_of (λ k. after (plus_step d) (k * nat_abs p.step) a) p.count, le-ltb (length old) p.count h)
          (ap (λ (c : ℕ). (given p.count, list_of (λ k. after (plus_step d) (k * nat_abs p.step) a) p.count ++ drop c old)) (length_of (λ k. after (plus_step d) (k * nat_abs p.step) a) p.count))

-- ---- segments: every real is admitted; places by the ends alone; entries of a whole axis; the index of a middle is that of its number
pub every-real : (a b d : Float) (s : Segment Float) → (axis_admitted real a b d && fit_in (stepped_axis real a b d) s) ≡ true
every-real a b d (exact v) = refl
every-real a b d (center_of v) = refl
every-real a b d last = refl

pub real-spot : (a b d v : Float) (l : Limit) → limit_admitted l ≡ true → real_place a b v l ≡ spot_answer ((stepped_axis real a b d).spot v l)
unfolding real_place
real-spot a b d v l h = rw h refl

pub step_spot_lem : (a b d : ℤ) {n : ℕ} → Stands (stepped_axis whole a b d) n → (v : ℤ) → whole_admitted v ≡ true → (l : Limit) → limit_admitted l ≡ true → whole_place a b v l ≡ spot_answer ((stepped_axis whole a b d).spot v l)
step_spot_lem a b d s v hv l h = ends-place a b d s.admitted v l ∙ rw (hv, h) refl

pub whole-spot : (a b : ℤ) {n : ℕ} → Stands (whole_axis a b) n → (v : ℤ) → whole_admitted v ≡ true → (l : Limit) → limit_admitted l ≡ true → whole_place a b v l ≡ spot_answer ((whole_axis a b).spot v l)
unfolding whole_place
whole-spot a b s v hv l h = rw (s.admitted, hv, h) refl

pub entry_in : (a b : ℤ) {n : ℕ} → Stands (whole_axis a b) n → (k : ℕ) → k < n → (whole_axis a b).entry k ≡ given (a +ℤ pos k)
entry_in a b s k l = rw (lt-ltb k (count_of a b) (omega (arith, l, s.count))) refl

pub index_center : {A : Type 0} (axis : Axis A) (find : Finder A) (v : A) → segment_index_of axis find (exact v) ≡ segment_index_of axis find (center_of v)
unfolding segment_index_of
index_center axis find v = refl

-- the counts that segments stand on: at least 1, and of a whole axis not too many
pub none_stand : {n : ℕ} → n ≡ 0 → refused 4 ≡ standing (given n)
none_stand {n} e = rw (eq-eqb n 0 e) refl

pub many_stand : {n : ℕ} → (n ≡ 0 → ⊥) → most_values < n → refused 4 ≡ standing (given n)
many_stand {n} e l = rw (ne_eqb n 0 e, lt-ltb most_values n l) refl

pub some_stand : {n : ℕ} → (n ≡ 0 → ⊥) → n ≤ most_values → given n ≡ standing (given n)
some_stand {n} e l = rw (ne_eqb n 0 e, le-ltb most_values n l) refl

pub counts_are : (a b : ℤ) → standing (whole_size a b) ≡ count_answer (whole_axis a b)
counts_are a b = counted a b refl

pub steps_stand : {A : Type 0} (kind : Kind A) (a b d : A) → standing (step_size kind a b d) ≡ count_answer (stepped_axis kind a b d)
unfolding count_answer step_size
steps_stand kind a b d = go (axis_admitted kind a b d) (against kind a b d) (too_long kind a b d) refl
  where
    go : (t u z : Bool) → too_long kind a b d ≡ z
        → standing (lowest (1 when not t ∷ 6 when u ∷ 7 when z ∷ []) (given (length (stepped kind a b d))))
        ≡ lowest (1 when not t ∷ 4 when (not (u || z) && (eqb (length (stepped kind a b d)) 0 || false)) ∷ 6 when u ∷ 7 when z ∷ []) (given (length (stepped kind a b d)))
    go false u z h = refl
    go true true z h = refl
    go true false true h = refl
    go true false false h = rw (le-ltb most_values (length (stepped kind a b d)) (few_enough kind a b d refl h)) refl

-- behind the last entry there is none
pub entry_out : (a b : ℤ) {n : ℕ} → Stands (whole_axis a b) n → (k : ℕ) → n ≤ k → (whole_axis a b).entry k ≡ none
entry_out a b s k l = rw (le-ltb k (count_of a b) (omega (arith, l, s.count))) refl

pub entry_past : {A : Type 0} (kind : Kind A) (a b d : A) {n : ℕ} → Stands (stepped_axis kind a b d) n → (k : ℕ) → n ≤ k → (stepped_axis kind a b d).entry (suc k) ≡ none
entry_past kind a b d s k l = nth_past (stepped kind a b d) (suc k) (omega (arith, l, s.count))

-- ---- rulers: where the record of v lies, and that it lies nowhere where the ruler lacks v or the bytes are none
module _ {l : List ℕ} {d : _} {p : KeyPoints} (v : ℤ) (k : Known l d p) where
  abbrev place : ℕ
  place = index_of v (list_of (element p.first p.step) p.count)

  has_is : has_mark l v ≡ ltb place p.count
  unfolding has_mark
  has_is = rw (k.ruler, known-marks k, length_of (element p.first p.step) p.count)

  pub record_found : place < p.count → record_in l v ≡ record_at (head_long (form_of d)) place
  unfolding record_in
  record_found h = rw (has_is, lt-ltb place p.count h, known-marks k) (ap (λ x. record_at (head_long (form_of x)) place) k.draft)

  pub record_absent : p.count ≤ place → record_in l v ≡ nowhere
  unfolding record_in
  record_absent h = rw (has_is, le-ltb place p.count h)

pub no_record : (l : List ℕ) (v : ℤ) → is_ruler l ≡ false → record_in l v ≡ nowhere
unfolding record_in has_mark
no_record l v e = rw e
