-- The reader takes what the writer gives, and nothing else. Assumes nothing.
use Rattle.std.proofs.Common.{◌≡◌, ℕ, ◌+◌, ◌*◌, ◌^◌, ◌<◌, ◌≤◌, Bool, true, false, ◌⊎◌, List, ◌++◌, length, take, drop, ℤ, pos, sym, refl, ap, ◌∙◌, subst, inl, inr, append-nil, arith, drop_of_length-le, take_at, w32, SFits}
use native.Mathlib.Decide.{dec_lt}
use lib.Seq.{take-length}
use Rattle.ranged1d.specs.Answer.{Answer, given, none, refused}
use Rattle.ranged1d.specs.Admitted.{limit_admitted}
use Rattle.ranged1d.specs.declared.Limit.{Limit}
use Rattle.ranged1d.proofs.Answers.{not-both, not_none}
use Rattle.ranged1d.proofs.Whole.{fits32, both_near}
use Rattle.numeric.specs.declared.Choice.{Choice}
use Rattle.numeric.specs.declared.Choice.TheVariants.{Cut, Inside}
use Rattle.ruler.specs.declared.Twist.{Twist}
use Rattle.ruler.specs.declared.Twist.TheVariants.{Plain, S, Z}
use Rattle.ruler.specs.declared.Form.{Form}
use Rattle.numeric.specs.declared.KeyPoints.{KeyPoints}
use Rattle.numeric.specs.Marks.{step_of, marks_by}
use Rattle.numeric.specs.Calls.{plan_with}
use Rattle.decimal.proofs.Texts.{same_yes}
use Rattle.ruler.specs.declared.Ruler.{Ruler}
use Rattle.ruler.specs.Bytes.{whole_at, kind_for, kind_byte, twist_number, head_long, form_for, axis, axis_body, laid}
use Rattle.ruler.specs.Rule.{form_in, a_in, b_in, limit_in, m_in, bytes_by, write_by, read_as, ruler_read, has_ruler, is_ruler, plain_form, ruler_plan_by, ruler_plan, ruler_plan_inside}
use Rattle.ruler.specs.Steps.{is_by, drawing_in}
use Rattle.ruler.proofs.Numbers.{word_back, number-back}
use Rattle.ruler.proofs.Drawn.{drawn_for, is_drawn, has_plan, ruler_is, ruler_long_lem, marks_long, write_refused, write_none, write_short, write_fits}
use Rattle.ruler.proofs.Places.{film}
use Rattle.ruler.proofs.Reader.{Known, ruler_in, known_long, read_known, read_nothing}

-- ---- what is planned of a draft with either choice of marks
pub plan_cut : (a b : ℤ) (limit : Limit) (m : ℕ) → ruler_plan_by (plain_form Cut) a b limit m ≡ ruler_plan a b limit m
plan_cut a b limit m = refl

pub plan_inside : (a b : ℤ) (limit : Limit) (m : ℕ) → ruler_plan_by (plain_form Inside) a b limit m ≡ ruler_plan_inside a b limit m
plan_inside a b limit m = refl

-- ---- the form and the numbers in a ruler are its own
abbrev form_by : Choice → Twist → Form
form_by c t = record { choice = c; twist = t }

kind_back : (c : Choice) (t : Twist) → form_for (kind_for c t) (twist_number t) ≡ form_by c t
kind_back Cut Plain = refl
kind_back Cut S = refl
kind_back Cut Z = refl
kind_back Inside Plain = refl
kind_back Inside S = refl
kind_back Inside Z = refl

form_back : (c : Choice) (t : Twist) (a b : ℤ) (limit : Limit) (m : ℕ) (s : ℤ) (rest : List ℕ) → form_in (laid (axis (form_by c t) a b limit m s) ++ rest) ≡ form_by c t
unfolding laid axis_body
form_back Cut Plain a b limit m s rest = refl
form_back Cut S a b limit m s rest = refl
form_back Cut Z a b limit m s rest = refl
form_back Inside Plain a b limit m s rest = refl
form_back Inside S a b limit m s rest = refl
form_back Inside Z a b limit m s rest = refl

limit_fits : (limit : Limit) → limit_admitted limit ≡ true → SFits w32 limit.0 × SFits w32 limit.1
limit_fits limit h =
    let near = both_near 1000000 limit.0 limit.1 h in
    (fits32 limit.0 (omega (arith, near.0)), fits32 limit.1 (omega (arith, near.1)))

numbers-back : (l : List ℕ) (f : Form) (a b : ℤ) (limit : Limit) (m : ℕ) (s : ℤ) (rest : List ℕ) → SFits w32 a → SFits w32 b → SFits w32 limit.0 × SFits w32 limit.1 → m < 2 ^ 32 → l ≡ laid (axis f a b limit m s) ++ rest → drawing_in l ≡ drawn_for f a b limit m
unfolding laid axis_body
numbers-back l f a b limit m s rest fa fb fl fm e =
    let f_is : form_in l ≡ f = ap form_in e ∙ form_back f.choice f.twist a b limit m s rest in
    let a_is : a_in l ≡ a = rw e (number-back a fa) in
    let b_is : b_in l ≡ b = rw e (number-back b fb) in
    let p_is : whole_at l 9 ≡ limit.0 = rw e (number-back limit.0 fl.0) in
    let q_is : whole_at l 13 ≡ limit.1 = rw e (number-back limit.1 fl.1) in
    let m_is : m_in l ≡ m = rw e (word_back m fm) in
    let c_is : (form_in l).choice ≡ f.choice = ap (λ (g : Form). g.choice) f_is in
    let t_is : (form_in l).twist ≡ f.twist = ap (λ (g : Form). g.twist) f_is in
    rw (c_is, t_is, a_is, b_is, p_is, q_is, m_is)

-- ---- a ruler is read as what it is
is_by_lem : (l : List ℕ) → is_ruler l ≡ is_by l (drawing_in l)
unfolding is_ruler
is_by_lem l = refl

module _ (f : Form) (a b : ℤ) (limit : Limit) (m : ℕ) (fm : m < 2 ^ 32) (h : has_ruler a b limit m ≡ true) where
  pub known : Known (bytes_by f a b limit m) (drawn_for f a b limit m) (plan_with f.choice a b m)
  known =
      let e = has_plan f a b limit m h in
      let ends = (is_drawn f a b limit m e).good.ends in
      let l = bytes_by f a b limit m in
      let own = numbers-back l f a b limit m (pos (step_of a b m)) _ (fits32 a (omega (arith, ends.0))) (fits32 b (omega (arith, ends.1))) (limit_fits limit (film a b limit m h)) fm (ruler_is f a b limit m e) in
      record {
        ruler = is_by_lem l ∙ ap (is_by l) own ∙ rw (h, same_yes l l refl);
        draft = own;
        plan = e;
        bytes = refl;
      }

  pub read_back : ruler_read (bytes_by f a b limit m) ≡ given (read_as f a b limit m (pos (step_of a b m)) (length (marks_by f.choice a b m)))
  read_back = read_known known

-- ---- read after write: the bytes that were written, of any lent list, are read as what was written
module _ (f : Form) (a b : ℤ) (limit : Limit) (m : ℕ) (old : List ℕ) where
  -- an accepted call: there is a ruler, and this is what was done
  pub record Written (n k : ℕ) : Type 0 where
    pub has : has_ruler a b limit m ≡ true
    pub size : length (bytes_by f a b limit m) ≡ n
    pub count : length (marks_by f.choice a b m) ≡ k
    pub memory : (write_by f a b limit m old).1 ≡ bytes_by f a b limit m ++ drop n old

  pub accepted : {n k : ℕ} → (write_by f a b limit m old).0 ≡ given (n, k) → Written n k
  accepted {n} {k} w = go (ruler_plan_by f a b limit m) refl
    where
      fits : {p : KeyPoints} → ruler_plan_by f a b limit m ≡ given p → head_long f + 20 * p.count ≤ length old → Written n k
      fits {p} e h =
          let did = write_fits f a b limit m e old h in
          let same : ◌≡◌ {A = Answer (ℕ × ℕ)} (given (head_long f + 20 * p.count, p.count)) (given (n, k)) = sym (ap (λ (r : Answer (ℕ × ℕ) × List ℕ). r.0) did) ∙ w in
          let both : ◌≡◌ {A = ℕ × ℕ} (head_long f + 20 * p.count, p.count) (n, k) = cc in
          let size : head_long f + 20 * p.count ≡ n = ap (λ (x : ℕ × ℕ). x.0) both in
          let count : p.count ≡ k = ap (λ (x : ℕ × ℕ). x.1) both in
          record {
            has = (is_drawn f a b limit m e).has;
            size = ruler_long_lem f a b limit m e ∙ size;
            count = marks_long f a b limit m e ∙ count;
            memory = ap (λ (r : Answer (ℕ × ℕ) × List ℕ). r.1) did ∙ ap (λ (x : ℕ). bytes_by f a b limit m ++ drop x old) size;
          }

      short : {p : KeyPoints} → ruler_plan_by f a b limit m ≡ given p → length old < head_long f + 20 * p.count → Written n k
      short e h = absurd (not-both (sym w ∙ ap (λ (r : Answer (ℕ × ℕ) × List ℕ). r.0) (write_short f a b limit m e old h)))

      room : {p : KeyPoints} → ruler_plan_by f a b limit m ≡ given p → Dec (length old < head_long f + 20 * p.count) → Written n k
      room e (yes h) = short e h
      room e (no h) = fits e (omega arith)

      go : (r : Answer KeyPoints) → ruler_plan_by f a b limit m ≡ r → Written n k
      go (given p) e = room e (dec_lt _ _)
      go none e = absurd (not_none (sym (ap (λ (r : Answer (ℕ × ℕ) × List ℕ). r.0) (write_none f a b limit m old e)) ∙ w))
      go (refused r) e = absurd (not-both (sym w ∙ ap (λ (r : Answer (ℕ × ℕ) × List ℕ). r.0) (write_refused f a b limit m old e)))

  pub read_after_write : {n k : ℕ} → m < 2 ^ 32 → (write_by f a b limit m old).0 ≡ given (n, k) → ruler_read (take n (write_by f a b limit m old).1) ≡ given (read_as f a b limit m (pos (step_of a b m)) k)
  read_after_write {n} {k} fm w =
      let did = accepted w in
      ap (λ (l : List ℕ). ruler_read (take n l)) did.memory
      ∙ ap ruler_read (take_at (bytes_by f a b limit m) (drop n old) n did.size)
      ∙ read_back f a b limit m fm did.has
      ∙ ap (λ (x : ℕ). given (read_as f a b limit m (pos (step_of a b m)) x)) did.count

-- ---- complete: bytes that the writer gives, lent as many, are accepted
pub read_complete : (l : List ℕ) (f : Form) (a b : ℤ) (limit : Limit) (m : ℕ) {k : ℕ} → m < 2 ^ 32 → write_by f a b limit m l ≡ (given (length l, k), l) → ruler_read l ≡ given (read_as f a b limit m (pos (step_of a b m)) k)
read_complete l f a b limit m {k} fm w =
    let back = read_after_write f a b limit m l {n = length l} {k = k} fm (ap (λ (r : Answer (ℕ × ℕ) × List ℕ). r.0) w) in
    ap ruler_read (sym (take-length l) ∙ ap (take (length l)) (sym (ap (λ (r : Answer (ℕ × ℕ) × List ℕ). r.1) w))) ∙ back

-- ---- sound: bytes that are accepted are what the writer gives for the numbers that were read, whatever the lent list of that length held
pub read_sound : (l : List ℕ) (r : Ruler) → ruler_read l ≡ given r → (old : List ℕ) → length old ≡ length l → write_by (form_for (kind_byte r.form) (twist_number r.form.twist)) r.a r.b r.limit r.m old ≡ (given (length l, r.marks), l)
read_sound l r e old same = go (is_ruler l) refl
  where
    given_by : is_ruler l ≡ true → write_by (form_for (kind_byte r.form) (twist_number r.form.twist)) r.a r.b r.limit r.m old ≡ (given (length l, r.marks), l)
    given_by t =
        let k = ruler_in l t in
        let long : head_long (form_in l) + 20 * length (marks_by (form_in l).choice (a_in l) (b_in l) (m_in l)) ≡ length l = sym (known_long k) in
        let enough : head_long (form_in l) + 20 * length (marks_by (form_in l).choice (a_in l) (b_in l) (m_in l)) ≤ length old = omega (arith, long) in
        let nothing : length old ≤ head_long (form_in l) + 20 * length (marks_by (form_in l).choice (a_in l) (b_in l) (m_in l)) = omega (arith, long) in
        let x : ◌≡◌ {A = Answer Ruler} (given (read_as (form_in l) (a_in l) (b_in l) (limit_in l) (m_in l) (pos (step_of (a_in l) (b_in l) (m_in l))) (length (marks_by (form_in l).choice (a_in l) (b_in l) (m_in l))))) (given r) = sym (read_known k) ∙ e in
        let is : read_as (form_in l) (a_in l) (b_in l) (limit_in l) (m_in l) (pos (step_of (a_in l) (b_in l) (m_in l))) (length (marks_by (form_in l).choice (a_in l) (b_in l) (m_in l))) ≡ r = cc in
        subst (λ (r : Ruler). write_by (form_for (kind_byte r.form) (twist_number r.form.twist)) r.a r.b r.limit r.m old ≡ (given (length l, r.marks), l)) is
        (rw (kind_back (form_in l).choice (form_in l).twist) (write_fits (form_in l) (a_in l) (b_in l) (limit_in l) (m_in l) k.plan old enough
        ∙ rw (drop_of_length-le old nothing, append-nil (bytes_by (form_in l) (a_in l) (b_in l) (limit_in l) (m_in l)), long, ← k.bytes)))

    go : (t : Bool) → is_ruler l ≡ t → write_by (form_for (kind_byte r.form) (twist_number r.form.twist)) r.a r.b r.limit r.m old ≡ (given (length l, r.marks), l)
    go true t = given_by t
    go false t = absurd (not-both (sym e ∙ read_nothing l t))

-- any other bytes are refused with 14
pub read_or_14 : (l : List ℕ) → ((r : Ruler) × (ruler_read l ≡ given r)) ⊎ (ruler_read l ≡ refused 14)
read_or_14 l = go (is_ruler l) refl
  where
    go : (t : Bool) → is_ruler l ≡ t → ((r : Ruler) × (ruler_read l ≡ given r)) ⊎ (ruler_read l ≡ refused 14)
    go true t = inl (_, read_known (ruler_in l t))
    go false t = inr (read_nothing l t)

-- ---- rulers of two forms, which are two kinds or two twists, share no bytes
pub one_form : (f f' : Form) (a b a' b' : ℤ) (limit limit' : Limit) (m m' : ℕ) → bytes_by f a b limit m ≡ bytes_by f' a' b' limit' m' → f ≡ f'
unfolding bytes_by
one_form f f' a b a' b' limit limit' m m' e =
    sym (form_back f.choice f.twist a b limit m (pos (step_of a b m)) _) ∙ ap form_in e ∙ form_back f'.choice f'.twist a' b' limit' m' (pos (step_of a' b' m')) _
