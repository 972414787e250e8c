-- What a plan says of the ruler: its records are those of the plan's marks, and every one of them can be made. Assumes nothing.
use Rattle.std.proofs.Common.{◌≡◌, ℕ, ◌+◌, ◌*◌, ◌<◌, ◌≤◌, Bool, true, false, not, ltb, List, [], ◌∷◌, ◌++◌, map, length, take, drop, ℤ, pos, nat_abs, ◌*ℤ◌, sym, refl, ap, ◌∙◌, subst, ap₂, arith, take-append-drop, take_at, drop_at, le-ltb, lt-ltb}
use Rattle.ruler.proofs.Places.{ends, film, served}
use Rattle.ranged1d.specs.Answer.{Answer, given, none, refused, ◌when◌, lowest, written, and_then}
use Rattle.ranged1d.proofs.Lowest.{lowest_then}
use Rattle.ranged1d.specs.Admitted.{limit_admitted, ends_admitted}
use Rattle.ranged1d.specs.declared.Limit.{Limit}
use Rattle.ruler.specs.declared.Form.{Form}
use Rattle.numeric.specs.declared.KeyPoints.{KeyPoints}
use Rattle.numeric.specs.Marks.{no_step, marks_by}
use Rattle.numeric.specs.Calls.{plan_by, plan_with, element}
use Rattle.numeric.proofs.Plans.{GoodBy, planned_good_by}
use Rattle.numeric.proofs.Inside.{plan_by_lem}
use Rattle.ruler.specs.declared.Drawing.{Drawing}
use Rattle.ruler.specs.Bytes.{head_long, axis, laid, joined}
use Rattle.numeric.specs.declared.Choice.{Choice}
use Rattle.ruler.specs.declared.Twist.{Twist}
use Rattle.ruler.specs.Rule.{plain_form, no_ruler, mark_at, bytes_by, write_by, has_ruler, ruler_plan_by}
use Rattle.ruler.specs.Steps.{form_of, first_of}
use Rattle.ruler.proofs.Records.{axis_long, head, marks_of, first_long, first_more}

-- the numbers on the way to mark k fit an i32
pub record Reachable (p : KeyPoints) (k : ℕ) : Type 0 where
  pub few : k < 2147483648
  pub product : nat_abs (pos k *ℤ p.step) ≤ 2147483647
  pub sum : nat_abs (element p.first p.step k) ≤ 2147483647

abbrev pub drawn_for : Form → ℤ → ℤ → Limit → ℕ → Drawing
drawn_for f a b limit m = record { draft = record { a = a; b = b; limit = limit; m = m; choice = f.choice }; twist = f.twist }

-- a twist changes nothing of a plan
pub plan_plain : (c : Choice) (t : Twist) (a b : ℤ) (limit : Limit) (m : ℕ) → ruler_plan_by (record { choice = c; twist = t }) a b limit m ≡ ruler_plan_by (plain_form c) a b limit m
unfolding ruler_plan_by
plan_plain c t a b limit m = refl

-- what is known of a ruler's plan that was given
pub record Drawn (f : Form) (a b : ℤ) (limit : Limit) (m : ℕ) (p : KeyPoints) : Type 0 where
  pub good : GoodBy f.choice a b m p
  pub has : has_ruler a b limit m ≡ true
  pub reachable : (k : ℕ) → k < p.count → Reachable p k

module _ (f : Form) (a b : ℤ) (limit : Limit) (m : ℕ) where
  DrawnBy : Answer KeyPoints → Type 0
  DrawnBy (given p) = Drawn f a b limit m p
  DrawnBy none = has_ruler a b limit m ≡ false
  DrawnBy (refused n) = has_ruler a b limit m ≡ false

  drawn : plan_by f.choice a b m ≡ given (plan_with f.choice a b m) → has_ruler a b limit m ≡ true → Drawn f a b limit m (plan_with f.choice a b m)
  drawn e has =
      let g = planned_good_by f.choice a b m e in
      record {
        good = g;
        has = has;
        reachable = λ k h. record { few = omega (arith, g.few); product = omega (arith, (g.near k h).0); sum = omega (arith, (g.near k h).1) };
      }

  all_drawn : DrawnBy (ruler_plan_by f a b limit m)
  unfolding DrawnBy ruler_plan_by has_ruler
  all_drawn = go (ends_admitted a b) refl (limit_admitted limit) refl (no_step a b m) refl
    where
      go : (t : Bool) → ends_admitted a b ≡ t → (u : Bool) → limit_admitted limit ≡ u → (v : Bool) → no_step a b m ≡ v
          → DrawnBy (lowest (1 when not t ∷ 2 when not u ∷ 3 when v ∷ []) (given (plan_with f.choice a b m)))
      go true e true w false g = drawn (plan_by_lem f.choice a b m ∙ rw (e, g)) (rw (e, w, g))
      go true e true w true g = rw (e, w, g)
      go true e false w v g = rw (e, w)
      go false e u w v g = rw e

  -- the writer's rule, by the plan
  abbrev by_plan : List ℕ → Answer KeyPoints → Answer (ℕ × ℕ) × List ℕ
  by_plan old r = written (and_then r (λ p. lowest (13 when ltb (length old) (length (bytes_by f a b limit m)) ∷ []) (given (length (bytes_by f a b limit m), p.count)))) (bytes_by f a b limit m) old

  by_plan_lem : (old : List ℕ) {r : Answer KeyPoints} → ruler_plan_by f a b limit m ≡ r → write_by f a b limit m old ≡ by_plan old r
  unfolding write_by ruler_plan_by
  by_plan_lem old e =
      ap (λ (r : Answer (ℕ × ℕ)). written r (bytes_by f a b limit m) old)
      (sym (lowest_then (no_ruler a b limit m) (given (plan_with f.choice a b m)) (λ p. lowest (13 when ltb (length old) (length (bytes_by f a b limit m)) ∷ []) (given (length (bytes_by f a b limit m), p.count)))))
      ∙ ap (by_plan old) e

  pub write_refused : (old : List ℕ) {n : ℕ} → ruler_plan_by f a b limit m ≡ refused n → write_by f a b limit m old ≡ (refused n, old)
  write_refused old e = by_plan_lem old e

  pub write_none : (old : List ℕ) → ruler_plan_by f a b limit m ≡ none → write_by f a b limit m old ≡ (none, old)
  write_none old e = by_plan_lem old e

  pub none_drawn : {n : ℕ} → ruler_plan_by f a b limit m ≡ refused n → has_ruler a b limit m ≡ false
  unfolding DrawnBy
  none_drawn e = subst DrawnBy e all_drawn

  -- an axis that has a ruler has a plan
  pub has_plan : has_ruler a b limit m ≡ true → ruler_plan_by f a b limit m ≡ given (plan_with f.choice a b m)
  unfolding ruler_plan_by
  has_plan h = rw (ends a b limit m h, film a b limit m h, served a b limit m h) refl

  module _ {p : KeyPoints} (e : ruler_plan_by f a b limit m ≡ given p) where
    pub is_drawn : Drawn f a b limit m p
    unfolding DrawnBy
    is_drawn = subst DrawnBy e all_drawn

    -- the axis's record, and those of the marks
    abbrev axis_record : List ℕ
    axis_record = head (drawn_for f a b limit m) p

    abbrev marks_run : List ℕ
    marks_run = marks_of (drawn_for f a b limit m) p p.count

    pub ruler_is : bytes_by f a b limit m ≡ axis_record ++ marks_run
    unfolding bytes_by
    ruler_is =
        ap₂ (λ (s : ℤ) (l : List ℤ). laid (axis f a b limit m s) ++ joined (map (mark_at a b limit) l)) (ap (λ (q : KeyPoints). q.step) is_drawn.good.plan) is_drawn.good.marks-are

    pub ruler_long_lem : length (bytes_by f a b limit m) ≡ head_long f + 20 * p.count
    ruler_long_lem = ap length ruler_is ∙ first_long (drawn_for f a b limit m) p p.count

    pub marks_long : length (marks_by f.choice a b m) ≡ p.count
    marks_long = ap (λ (q : KeyPoints). q.count) is_drawn.good.plan

    pub write_short : (old : List ℕ) → length old < head_long f + 20 * p.count → write_by f a b limit m old ≡ (refused 13, old)
    write_short old h = by_plan_lem old e ∙ rw (ruler_long_lem, lt-ltb (length old) (head_long f + 20 * p.count) h)

    pub write_fits : (old : List ℕ) → head_long f + 20 * p.count ≤ length old → write_by f a b limit m old ≡ (given (head_long f + 20 * p.count, p.count), bytes_by f a b limit m ++ drop (head_long f + 20 * p.count) old)
    write_fits old h = by_plan_lem old e ∙ rw (ruler_long_lem, le-ltb (length old) (head_long f + 20 * p.count) h, ruler_long_lem)

    -- the first record and the others
    pub ruler_head : take (head_long f) (bytes_by f a b limit m) ≡ axis_record
    ruler_head = rw ruler_is (take_at axis_record marks_run (head_long f) (axis_long f a b limit m p.step))

    pub ruler_rest : drop (head_long f) (bytes_by f a b limit m) ≡ marks_run
    ruler_rest = rw ruler_is (drop_at axis_record marks_run (head_long f) (axis_long f a b limit m p.step))

    pub ruler_whole : (l : List ℕ) → take (head_long f) l ≡ axis_record → drop (head_long f) l ≡ marks_run → l ≡ bytes_by f a b limit m
    ruler_whole l x y = sym (take-append-drop (head_long f) l) ∙ ap₂ (λ (t u : List ℕ). t ++ u) x y ∙ sym ruler_is

-- all records of a ruler, put at the start of a list
pub all_put : (d : Drawing) {p : KeyPoints} → ruler_plan_by (form_of d) d.draft.a d.draft.b d.draft.limit d.draft.m ≡ given p → {l : List ℕ} (old : List ℕ)
    → l ≡ joined (first_of d p (p.count + 1)) ++ drop (length (joined (first_of d p (p.count + 1)))) old → l ≡ bytes_by (form_of d) d.draft.a d.draft.b d.draft.limit d.draft.m ++ drop (head_long (form_of d) + 20 * p.count) old
all_put d {p} e old put =
    put ∙ rw (first_more d p p.count, ← ruler_is (form_of d) d.draft.a d.draft.b d.draft.limit d.draft.m e, ruler_long_lem (form_of d) d.draft.a d.draft.b d.draft.limit d.draft.m e)
