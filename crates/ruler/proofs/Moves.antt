-- 02 (c): moving over and back gives what writing gives, and changes no byte. Assumes nothing.
use Rattle.std.proofs.Common.{◌≡◌, ℕ, ◌+◌, ◌-◌, ◌*◌, ◌/◌, ◌%◌, ◌^◌, ◌<◌, ◌≤◌, true, false, not, T, List, ◌++◌, map, length, drop, ℤ, pos, sym, refl, ap, ◌∙◌, subst, mod-lt, arith, lit<}
use Rattle.ranged1d.specs.Answer.{given}
use Rattle.ranged1d.specs.declared.Limit.{Limit}
use Rattle.ranged1d.proofs.Bools.{both_true}
use Rattle.numeric.specs.declared.Choice.{Choice}
use Rattle.numeric.specs.declared.Choice.TheVariants.{Cut, Inside}
use Rattle.numeric.specs.Marks.{step_of, marks_by}
use Rattle.numeric.specs.Calls.{plan_with}
use Rattle.ruler.specs.declared.Twist.{Twist}
use Rattle.ruler.specs.declared.Twist.TheVariants.{Plain, S, Z}
use Rattle.ruler.specs.declared.Form.{Form}
use Rattle.ruler.specs.declared.Drawing.{Drawing}
use Rattle.ruler.specs.Bytes.{kind_for, twist_bytes, axis, axis_body, laid, joined}
use Rattle.ruler.specs.Rule.{mark_at, bytes_by, form_in, a_in, b_in, limit_in, m_in, is_ruler, plain, is_z, is_old, is_twisted, upgraded, downgraded, ruler_upgrade, ruler_downgrade}
use Rattle.ruler.specs.Moves.{Moves}
use Rattle.ruler.proofs.Drawn.{drawn_for, is_drawn}
use Rattle.ruler.proofs.Reader.{Known, ruler_in, known_long}
use Rattle.ruler.proofs.Theorems.{known}
use Rattle.ruler.proofs.Moving.{form_by, over_long, back_long, list_fits, upgrade_moves, downgrade_moves}
use Rattle.ruler.specs.Steps.{form_of}

-- ---- a record of the axis with anything behind it, moved
module _ (a b : ℤ) (limit : Limit) (m : ℕ) (s : ℤ) (rest : List ℕ) where
  abbrev with_rest : Form → List ℕ
  with_rest f = laid (axis f a b limit m s) ++ rest

  head_over : (c : Choice) → upgraded (with_rest (form_by c Plain)) ≡ with_rest (form_by c S)
  unfolding upgraded laid axis_body
  head_over Cut = refl
  head_over Inside = refl

  head_back : (c : Choice) → downgraded (with_rest (form_by c S)) ≡ with_rest (form_by c Plain)
  unfolding downgraded laid axis_body
  head_back Cut = refl
  head_back Inside = refl

-- ---- a ruler of a given form, moved
module _ (c : Choice) (a b : ℤ) (limit : Limit) (m : ℕ) where
  ruler_over : upgraded (bytes_by (form_by c Plain) a b limit m) ≡ bytes_by (form_by c S) a b limit m
  unfolding bytes_by
  ruler_over = head_over a b limit m (pos (step_of a b m)) (joined (map (mark_at a b limit) (marks_by c a b m))) c

  ruler_back : downgraded (bytes_by (form_by c S) a b limit m) ≡ bytes_by (form_by c Plain) a b limit m
  unfolding bytes_by
  ruler_back = head_back a b limit m (pos (step_of a b m)) (joined (map (mark_at a b limit) (marks_by c a b m))) c

-- ---- bytes that are a ruler
-- the mark limit in them fits four bytes
limit-bytes : (f : Form) (a b : ℤ) (limit : Limit) (m : ℕ) → m_in (bytes_by f a b limit m) ≡ m % 256 + m / 256 % 256 * 256 + m / 65536 % 256 * 65536 + m / 16777216 % 256 * 16777216
unfolding bytes_by laid axis_body
limit-bytes f a b limit m = refl

plain_is : (t : Twist) → plain t ≡ true → t ≡ Plain
plain_is Plain e = refl
plain_is S e = absurd (subst T (sym e) tt)
plain_is Z e = absurd (subst T (sym e) tt)

s_is : (t : Twist) → not (plain t) ≡ true → is_z t ≡ false → t ≡ S
s_is Plain e g = absurd (subst T (sym e) tt)
s_is S e g = refl
s_is Z e g = absurd (subst T g tt)

-- a ruler's own form, with its twist known
with_form : (l : List ℕ) {t : Twist} → (form_in l).twist ≡ t → form_in l ≡ form_by (form_in l).choice t
with_form l e = ap {B = Form} (λ (t : Twist). record { choice = (form_in l).choice; twist = t }) e

module _ (l : List ℕ) where
  abbrev c : Choice
  c = (form_in l).choice

  abbrev drawn_as : Form → List ℕ
  drawn_as f = bytes_by f (a_in l) (b_in l) (limit_in l) (m_in l)

  module _ (ruler : is_ruler l ≡ true) where
    bytes-are : {t : Twist} → (form_in l).twist ≡ t → l ≡ drawn_as (form_by c t)
    bytes-are e = (ruler_in l ruler).bytes ∙ ap drawn_as (with_form l e)

    pub small : m_in l < 2 ^ 32
    small =
        let m = m_in l in
        let m_is : m_in l ≡ m % 256 + m / 256 % 256 * 256 + m / 65536 % 256 * 65536 + m / 16777216 % 256 * 16777216 = ap m_in (ruler_in l ruler).bytes ∙ limit-bytes (form_in l) (a_in l) (b_in l) (limit_in l) m in
        omega (arith, m_is, mod-lt m {m = 256} (lit< tt), mod-lt (m / 256) {m = 256} (lit< tt), mod-lt (m / 65536) {m = 256} (lit< tt), mod-lt (m / 16777216) {m = 256} (lit< tt))

    enough : 25 ≤ length l
    enough = omega (arith, known_long (ruler_in l ruler))

    -- what it is drawn as is a ruler of that form
    own : (f : Form) → Known (drawn_as f) (drawn_for f (a_in l) (b_in l) (limit_in l) (m_in l)) (plan_with f.choice (a_in l) (b_in l) (m_in l))
    own f = known f (a_in l) (b_in l) (limit_in l) (m_in l) small (is_drawn (form_in l) (a_in l) (b_in l) (limit_in l) (m_in l) (ruler_in l ruler).plan).has

    own_form : (f : Form) → form_in (drawn_as f) ≡ f
    own_form f = ap (λ (d : Drawing). (form_of d)) (own f).draft

    own_old : is_old (drawn_as (form_by c Plain)) ≡ true
    unfolding is_old
    own_old = rw (own (form_by c Plain)).ruler (ap (λ (f : Form). plain f.twist) (own_form (form_by c Plain)))

    own_twisted : is_twisted (drawn_as (form_by c S)) ≡ true
    unfolding is_twisted
    own_twisted = rw (own (form_by c S)).ruler (ap (λ (f : Form). not (plain f.twist)) (own_form (form_by c S)))

    own_s : is_z (form_in (drawn_as (form_by c S))).twist ≡ false
    own_s = ap (λ (f : Form). is_z f.twist) (own_form (form_by c S))

  -- an old ruler
  module _ (e : is_old l ≡ true) where
    old_parts : (is_ruler l ≡ true) × ((form_in l).twist ≡ Plain)
    unfolding is_old
    old_parts = let both = both_true (is_ruler l) (plain (form_in l).twist) e in (both.0, plain_is (form_in l).twist both.1)

    over_is : upgraded l ≡ drawn_as (form_by c S)
    over_is = ap upgraded (bytes-are old_parts.0 old_parts.1) ∙ ruler_over c (a_in l) (b_in l) (limit_in l) (m_in l)

    upgraded_long : length (upgraded l) ≡ length l + 1
    unfolding upgraded
    upgraded_long = over_long (kind_for c S) l (enough old_parts.0)

    moved-over : (old : List ℕ) → length l + 1 ≤ length old → ruler_upgrade l old ≡ (given (length l + 1), drawn_as (form_by c S) ++ drop (length l + 1) old)
    moved-over old h =
        upgrade_moves l old e
        ∙ sym (list_fits (upgraded l) old upgraded_long h refl)
        ∙ ap (λ (x : List ℕ). (given (length l + 1), x ++ drop (length l + 1) old)) over_is

    there_and_back : (is_twisted (upgraded l) ≡ true) × (is_z (form_in (upgraded l)).twist ≡ false) × (downgraded (upgraded l) ≡ l)
    there_and_back = (
      ap is_twisted over_is ∙ own_twisted old_parts.0,
      ap (λ (x : List ℕ). is_z (form_in x).twist) over_is ∙ own_s old_parts.0,
      ap downgraded over_is ∙ ruler_back c (a_in l) (b_in l) (limit_in l) (m_in l) ∙ sym (bytes-are old_parts.0 old_parts.1),
    )

  -- an S ruler
  module _ (e : is_twisted l ≡ true) (g : is_z (form_in l).twist ≡ false) where
    s_parts : (is_ruler l ≡ true) × ((form_in l).twist ≡ S)
    unfolding is_twisted
    s_parts = let both = both_true (is_ruler l) (not (plain (form_in l).twist)) e in (both.0, s_is (form_in l).twist both.1 g)

    back_is : downgraded l ≡ drawn_as (form_by c Plain)
    back_is = ap downgraded (bytes-are s_parts.0 s_parts.1) ∙ ruler_back c (a_in l) (b_in l) (limit_in l) (m_in l)

    downgraded_long : length (downgraded l) ≡ length l - 1
    unfolding downgraded
    downgraded_long =
        omega (arith, back_long (kind_for c Plain) l (enough s_parts.0), known_long (ruler_in l s_parts.0), ap (λ (t : Twist). length (twist_bytes t)) s_parts.1)

    moved_back : (old : List ℕ) → length l - 1 ≤ length old → ruler_downgrade l old ≡ (given (length l - 1), drawn_as (form_by c Plain) ++ drop (length l - 1) old)
    moved_back old h =
        downgrade_moves l old e g
        ∙ sym (list_fits (downgraded l) old downgraded_long h refl)
        ∙ ap (λ (x : List ℕ). (given (length l - 1), x ++ drop (length l - 1) old)) back_is

    back_and_there : (is_old (downgraded l) ≡ true) × (upgraded (downgraded l) ≡ l)
    back_and_there = (
      ap is_old back_is ∙ own_old s_parts.0,
      ap upgraded back_is ∙ ruler_over c (a_in l) (b_in l) (limit_in l) (m_in l) ∙ sym (bytes-are s_parts.0 s_parts.1),
    )

pub moves : Moves
moves = record { over = moved-over; back = moved_back; over_and_back = there_and_back; back_and_over = back_and_there }
