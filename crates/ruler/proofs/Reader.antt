-- What the examination of bytes says: that they are a ruler, and which. Assumes nothing.
use Rattle.std.proofs.Common.{◌≡◌, ℕ, ◌+◌, ◌*◌, ◌<◌, Bool, true, false, cond, ◌&&◌, List, length, Option, Some, None, sym, refl, ap, ◌∙◌, subst, arith}
use Rattle.std.specs.Prelude.{Result, Ok, Err, MatchResult}
use Rattle.std.specs.Result.{result_ok}
use Rattle.std.specs.Option.{option_map, ok_or}
use Rattle.ranged1d.specs.Answer.{given, refused}
use Rattle.ranged1d.specs.Refusals.{number_of}
use Rattle.ranged1d.specs.declared.Refusal.{Refusal}
use Rattle.ranged1d.specs.declared.Refusal.TheVariants.{NotARuler}
use Rattle.ranged1d.proofs.Bools.{both_true}
use Rattle.numeric.specs.declared.KeyPoints.{KeyPoints}
use Rattle.numeric.specs.Marks.{list_of}
use Rattle.numeric.specs.Calls.{plan_with, element}
use Rattle.decimal.specs.Read.{same_bytes}
use Rattle.decimal.proofs.Texts.{same-equal, same_yes, same_no}
use Rattle.ruler.specs.declared.Drawing.{Drawing}
use Rattle.ruler.specs.declared.Layout.{Layout}
use Rattle.ruler.specs.Bytes.{head_long}
use Rattle.ruler.specs.Rule.{form_in, a_in, b_in, limit_in, m_in, marks_in, bytes_by, has_ruler, is_ruler, read_as, ruler_read}
use Rattle.ruler.specs.Steps.{form_of, plan_for, seen_by, drawing_in, seen_of}
use Rattle.ruler.proofs.Drawn.{Drawn, is_drawn, none_drawn, has_plan, ruler_long_lem}

abbrev pub bytes_of : Drawing → List ℕ
bytes_of d = bytes_by (form_of d) d.draft.a d.draft.b d.draft.limit d.draft.m

-- ---- what a layout of d says of d
pub laid_out : {d e : Drawing} {p : KeyPoints} → e ≡ d → plan_for e ≡ given p → plan_for d ≡ given p
laid_out {d} {e} {p} f g = subst (λ (x : Drawing). plan_for x ≡ given p) f g

pub long_out : {d e : Drawing} → e ≡ d → (p : KeyPoints) → head_long (form_of e) + 20 * p.count ≡ head_long (form_of d) + 20 * p.count
long_out f p = ap (λ (x : Drawing). head_long (form_of x) + 20 * p.count) f

-- ---- bytes compared with the ruler of d
module _ (l : List ℕ) (d : Drawing) where
  pub seen_other : {p : KeyPoints} → plan_for d ≡ given p → (l ≡ bytes_of d → ⊥) → seen_by l d ≡ None
  unfolding seen_by
  seen_other e f = rw ((is_drawn _ _ _ _ _ e).has, same_no l (bytes_of d) f)

  pub seen_none : {n : ℕ} → plan_for d ≡ refused n → seen_by l d ≡ None
  unfolding seen_by
  seen_none e = rw (none_drawn _ _ _ _ _ e)

  pub seen_same : {p : KeyPoints} → plan_for d ≡ given p → l ≡ bytes_of d → seen_by l d ≡ Some (d, p)
  unfolding seen_by
  seen_same e x = rw ((is_drawn _ _ _ _ _ e).has, same_yes l (bytes_of d) x) (ap (λ (p : KeyPoints). Some (d, p)) (is_drawn _ _ _ _ _ e).good.plan)

  pub seen_short : length l < 25 → seen_by l d ≡ None
  unfolding seen_by
  seen_short h = go (has_ruler d.draft.a d.draft.b d.draft.limit d.draft.m) refl
    where
      go : (t : Bool) → has_ruler d.draft.a d.draft.b d.draft.limit d.draft.m ≡ t → cond {A = Option (Drawing × KeyPoints)} (t && same_bytes l (bytes_of d)) (Some (d, plan_with d.draft.choice d.draft.a d.draft.b d.draft.m)) None ≡ None
      go true e = rw (same_no l (bytes_of d) (λ x. omega (arith, ap length x, ruler_long_lem (form_of d) _ _ _ _ (has_plan (form_of d) _ _ _ _ e))))
      go false e = refl

-- ---- bytes examined by themselves
-- what is known of bytes that are a ruler
pub record Known (l : List ℕ) (d : Drawing) (p : KeyPoints) : Type 0 where
  pub ruler : is_ruler l ≡ true
  pub draft : drawing_in l ≡ d
  pub plan : plan_for d ≡ given p
  pub bytes : l ≡ bytes_of d

pub ruler_in : (l : List ℕ) → is_ruler l ≡ true → Known l (drawing_in l) (plan_with (form_in l).choice (a_in l) (b_in l) (m_in l))
unfolding is_ruler
ruler_in l h =
    let both = both_true (has_ruler (a_in l) (b_in l) (limit_in l) (m_in l)) (same_bytes l (bytes_of (drawing_in l))) h in
    record { ruler = h; draft = refl; plan = has_plan _ _ _ _ _ both.0; bytes = same-equal l (bytes_of (drawing_in l)) both.1 }

KnownBy : List ℕ → Option (Drawing × KeyPoints) → Type 0
KnownBy l (Some (d, p)) = Known l d p
KnownBy l None = is_ruler l ≡ false

all_known : (l : List ℕ) → KnownBy l (seen_of l)
unfolding KnownBy seen_by is_ruler
all_known l = go (is_ruler l) refl
  where
    go : (t : Bool) → is_ruler l ≡ t → KnownBy l (cond {A = Option (Drawing × KeyPoints)} t (Some (drawing_in l, plan_with (form_in l).choice (a_in l) (b_in l) (m_in l))) None)
    go true e = ruler_in l e
    go false e = e

pub seen_known : {l : List ℕ} {d : Drawing} {p : KeyPoints} → seen_of l ≡ Some (d, p) → Known l d p
unfolding KnownBy
seen_known {l} e = subst (KnownBy l) e (all_known l)

pub seen_nothing : (l : List ℕ) → seen_of l ≡ None → is_ruler l ≡ false
unfolding KnownBy
seen_nothing l e = subst (KnownBy l) e (all_known l)

module _ {l : List ℕ} {d : Drawing} {p : KeyPoints} (k : Known l d p) where
  pub known_drawn : Drawn (form_of d) d.draft.a d.draft.b d.draft.limit d.draft.m p
  known_drawn = is_drawn _ _ _ _ _ k.plan

  pub known_long : length l ≡ head_long (form_of d) + 20 * p.count
  known_long = ap length k.bytes ∙ ruler_long_lem _ _ _ _ _ k.plan

  pub known-marks : marks_in l ≡ list_of (element p.first p.step) p.count
  known-marks = (subst (λ (d : Drawing). Drawn (form_of d) d.draft.a d.draft.b d.draft.limit d.draft.m p) (sym k.draft) known_drawn).good.marks-are

  pub read_known : ruler_read l ≡ given (read_as (form_of d) d.draft.a d.draft.b d.draft.limit d.draft.m p.step p.count)
  unfolding ruler_read
  read_known =
      let plan = subst (λ (d : Drawing). plan_with d.draft.choice d.draft.a d.draft.b d.draft.m ≡ p) (sym k.draft) known_drawn.good.plan in
      rw k.ruler
      (ap (λ (q : KeyPoints). given (read_as (form_in l) (a_in l) (b_in l) (limit_in l) (m_in l) q.step q.count)) plan
      ∙ ap (λ (d : Drawing). given (read_as (form_of d) d.draft.a d.draft.b d.draft.limit d.draft.m p.step p.count)) k.draft)

pub read_nothing : (l : List ℕ) → is_ruler l ≡ false → ruler_read l ≡ refused 14
unfolding ruler_read
read_nothing l e = rw e

-- ---- a layout that was asked for, as a call goes on from it
abbrev LaidOut : Drawing → Result Layout Refusal → Type 0
LaidOut d r = MatchResult r (λ x. x.drawing ≡ d) (λ e. plan_for d ≡ refused (number_of e))

pub layout_given : {d : Drawing} (r : Result Layout Refusal) {x : Layout} → Some x ≡ result_ok r → LaidOut d r → x.drawing ≡ d
layout_given {d} (Ok y) {x} e h = let same : y ≡ x = cc in subst (λ (z : Layout). z.drawing ≡ d) same h
layout_given (Err y) e h = absurd (cc)

pub layout_refused : (d : Drawing) (r : Result Layout Refusal) → None ≡ result_ok r → LaidOut d r → (n : ℕ) × (plan_for d ≡ refused n)
layout_refused d (Ok y) e h = absurd (cc)
layout_refused d (Err y) e h = (number_of y, h)

-- ---- what was examined, as a call goes on from it
pub known_layout : {l : List ℕ} {r : Option Layout} {x : Layout} → option_map (λ (y : Layout). (y.drawing, y.points)) r ≡ seen_of l → r ≡ Some x → Known l x.drawing x.points
known_layout e h = seen_known (sym e ∙ ap (option_map (λ (y : Layout). (y.drawing, y.points))) h)

pub known_none : (l : List ℕ) {r : Option Layout} → option_map (λ (y : Layout). (y.drawing, y.points)) r ≡ seen_of l → r ≡ None → is_ruler l ≡ false
known_none l e h = seen_nothing l (sym e ∙ ap (option_map (λ (y : Layout). (y.drawing, y.points))) h)

-- and where it is refused, by 14
pub no_ruler_14 : {r : Option Layout} {e : Refusal} → ◌≡◌ {A = Result Layout Refusal} (Err e) (ok_or r NotARuler) → r ≡ None → number_of e ≡ 14
no_ruler_14 {r} {e} f h =
    let is : ◌≡◌ {A = Result Layout Refusal} (Err e) (Err NotARuler) = f ∙ ap (λ (x : Option Layout). ok_or x NotARuler) h in
    let same : e ≡ NotARuler = cc in
    ap number_of same
