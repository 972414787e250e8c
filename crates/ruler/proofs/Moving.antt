-- 02 (c): rulers with a twist, written, moved over and moved back. Assumes nothing.
use Rattle.std.proofs.Common.{◌⊎◌, inl, inr, ◌≡◌, ℕ, ◌+◌, ◌-◌, ◌*◌, ◌<◌, ◌≤◌, Bool, true, false, not, ltb, List, [], ◌∷◌, ◌++◌, length, take, drop, set, ℤ, sym, refl, ap, ◌∙◌, ap₂, arith, append_assoc, length-append, length-drop, length-take, le-ltb, lt-ltb, ne_eqb}
use borrow.Rule.Slice.PartMut.{put_mid}
use Rattle.ranged1d.specs.Answer.{Answer, given, refused, Reason, ◌when◌, lowest, written, list_written}
use Rattle.ranged1d.specs.Admitted.{ends_admitted, limit_admitted}
use Rattle.ranged1d.specs.declared.Limit.{Limit}
use Rattle.ranged1d.proofs.Lowest.{stops}
use Rattle.numeric.specs.declared.Choice.{Choice}
use Rattle.numeric.specs.declared.KeyPoints.{KeyPoints}
use Rattle.numeric.specs.Marks.{no_step, marks_by}
use Rattle.numeric.specs.Calls.{plan_with}
use Rattle.ruler.specs.declared.Twist.{Twist}
use Rattle.ruler.specs.declared.Twist.TheVariants.{Plain, S, Z}
use Rattle.ruler.specs.declared.Form.{Form}
use Rattle.ruler.specs.declared.Drawing.{Drawing}
use Rattle.ruler.specs.Bytes.{kind_for, twist_bytes, head_long}
use Rattle.ruler.specs.Rule.{no_ruler, bytes_by, write_by, ruler_plan_by, has_ruler, twisted_write, form_in, is_ruler, plain, is_z, is_old, is_twisted, over, back, upgraded, downgraded, ruler_upgrade, ruler_downgrade}
use Rattle.ruler.specs.Steps.{form_of, no_twist}
use Rattle.ruler.proofs.Places.{ends, film, served}
use Rattle.ruler.proofs.Drawn.{is_drawn, ruler_long_lem}
use Rattle.ruler.proofs.Lists.{put-part, kind_put}
use Rattle.ruler.proofs.Reader.{Known, known_long}

-- ---- writing with a twist, by its number
abbrev pub form_by : Choice → Twist → Form
form_by c t = record { choice = c; twist = t }

abbrev rs : Bool → Bool → Bool → Bool → List Reason
rs u v w x = 1 when u ∷ 2 when v ∷ 3 when w ∷ 13 when x ∷ 15 when true ∷ []

module _ (c : Choice) (a b : ℤ) (limit : Limit) (m : ℕ) (old : List ℕ) where
  pub twisted_s : {t : ℕ} → t ≡ 0 → twisted_write c t a b limit m old ≡ write_by (form_by c S) a b limit m old
  unfolding twisted_write write_by
  twisted_s e = rw e

  pub twisted_z : {t : ℕ} → t ≡ 1 → twisted_write c t a b limit m old ≡ write_by (form_by c Z) a b limit m old
  unfolding twisted_write write_by
  twisted_z e = rw e

  pub twisted_unknown : (t : ℕ) → (t ≡ 0 → ⊥) → (t ≡ 1 → ⊥) → twisted_write c t a b limit m old ≡ (no_twist (form_by c Z) a b limit m (length old), old)
  unfolding twisted_write no_twist
  twisted_unknown t e g =
      rw (ne_eqb t 0 e, lt-ltb 1 t (omega (arith, e, g)))
      (go (not (ends_admitted a b)) (not (limit_admitted limit)) (no_step a b m) (ltb (length old) (length (bytes_by (form_by c Z) a b limit m))))
    where
      go : (u v w x : Bool)
          → ◌≡◌ {A = Answer (ℕ × ℕ) × List ℕ} (written (lowest (rs u v w x) (given (length (bytes_by (form_by c Z) a b limit m), length (marks_by c a b m)))) (bytes_by (form_by c Z) a b limit m) old) (lowest (rs u v w x) (given (0, 0)), old)
      go true v w x = refl
      go false true w x = refl
      go false false true x = refl
      go false false false true = refl
      go false false false false = refl

module _ (f : Form) (a b : ℤ) (limit : Limit) (m room : ℕ) where
  pub no_twist_refused : {n : ℕ} → ruler_plan_by f a b limit m ≡ refused n → no_twist f a b limit m room ≡ refused n
  unfolding no_twist ruler_plan_by
  no_twist_refused e = stops (no_ruler a b limit m) (13 when ltb room (length (bytes_by f a b limit m)) ∷ 15 when true ∷ []) (given (0, 0)) (plan_with f.choice a b m) e

  module _ {p : KeyPoints} (e : ruler_plan_by f a b limit m ≡ given p) where
    has : has_ruler a b limit m ≡ true
    has = (is_drawn f a b limit m e).has

    pub no_twist_short : room < head_long f + 20 * p.count → no_twist f a b limit m room ≡ refused 13
    unfolding no_twist
    no_twist_short h = rw (ends a b limit m has, film a b limit m has, served a b limit m has, ruler_long_lem f a b limit m e, lt-ltb room (head_long f + 20 * p.count) h)

    pub no_twist_unknown : head_long f + 20 * p.count ≤ room → no_twist f a b limit m room ≡ refused 15
    unfolding no_twist
    no_twist_unknown h = rw (ends a b limit m has, film a b limit m has, served a b limit m has, ruler_long_lem f a b limit m e, le-ltb room (head_long f + 20 * p.count) h)

-- ---- bytes moved, as they are put
abbrev pub moved : ℕ → List ℕ → List ℕ → ℕ → List ℕ
moved k l t r = (k ∷ take 24 (drop 1 l)) ++ (t ++ drop r l)

module _ (k : ℕ) (l : List ℕ) (h : 25 ≤ length l) where
  pub over_long : length (over k l) ≡ length l + 1
  over_long = simp (length-append, length-take, length-drop) (omega arith)

  pub back_long : length (back k l) ≡ 25 + (length l - 26)
  back_long = simp (length-append, length-take, length-drop) (omega arith)

module _ (k : ℕ) (l t : List ℕ) (r : ℕ) (h : 25 ≤ r) (g : r ≤ length l) where
  body_long : length (take 24 (drop 1 l)) ≡ 24
  body_long = simp (length-take, length-drop) (omega arith)

  pub moved_long : length (moved k l t r) ≡ 25 + length t + (length l - r)
  moved_long = simp (length-append, length-take, length-drop) (omega arith)

  -- the kind, the body, the twist and the records of the marks, one behind another
  pub moved_put : (old x y z : List ℕ) (m n : ℕ) → 1 ≤ length old → x ≡ take 24 (drop 1 l) → y ≡ t → z ≡ drop r l → m ≡ length t → n ≡ length l - r
      → put_mid (25 + length t) n (put_mid 25 m (put_mid 1 24 (set old 0 k) x) y) z ≡ moved k l t r ++ drop (25 + length t + (length l - r)) old
  moved_put old x y z m n one ex ey ez em en =
      let front = k ∷ take 24 (drop 1 l) in
      let first = put-part 1 24 (k ∷ []) (take 24 (drop 1 l)) old (set old 0 k) x refl (kind_put k old one) ex in
      let second = put-part 25 m front t old (put_mid 1 24 (set old 0 k) x) y (omega (arith, body_long)) first ey in
      let third = put-part (25 + length t) n (front ++ t) (drop r l) old (put_mid 25 m (put_mid 1 24 (set old 0 k) x) y) z (simp length-append (omega (arith, body_long))) (second ∙ ap (λ (i : ℕ). (front ++ t) ++ drop (25 + i) old) em) ez in
      third ∙ ap₂ (λ (u : List ℕ) (i : ℕ). u ++ drop (25 + length t + i) old) (append_assoc front t (drop r l)) en

pub list_short : (new old : List ℕ) {n : ℕ} → length new ≡ n → length old < n → ◌≡◌ {A = Answer ℕ × List ℕ} (refused 13, old) (list_written new old)
list_short new old {n} e h = rw (e, lt-ltb (length old) n h)

pub list_fits : (new old : List ℕ) {n : ℕ} {x : List ℕ} → length new ≡ n → n ≤ length old → x ≡ new ++ drop n old → ◌≡◌ {A = Answer ℕ × List ℕ} (given n, x) (list_written new old)
list_fits new old {n} e h g = rw (e, le-ltb (length old) n h, e, g)

-- ---- which bytes are moved
pub not_plain : {t : Twist} → (t ≡ S) ⊎ (t ≡ Z) → plain t ≡ false
not_plain (inl e) = ap plain e
not_plain (inr e) = ap plain e

module _ {l : List ℕ} {d : Drawing} {p : KeyPoints} (k : Known l d p) where
  pub form_known : form_in l ≡ (form_of d)
  form_known = ap (λ (x : Drawing). (form_of x)) k.draft

  pub old_is : {t : Twist} → d.twist ≡ t → is_old l ≡ plain t
  unfolding is_old
  old_is e = rw k.ruler (ap (λ (f : Form). plain f.twist) form_known ∙ ap plain e)

  pub twisted_is : {t : Twist} → d.twist ≡ t → is_twisted l ≡ not (plain t)
  unfolding is_twisted
  twisted_is e = rw k.ruler (ap (λ (f : Form). not (plain f.twist)) form_known ∙ ap (λ (t : Twist). not (plain t)) e)

  pub long_old : 25 ≤ length l
  long_old = omega (arith, known_long k)

  pub long_twisted : {t : Twist} → d.twist ≡ t → 25 + length (twist_bytes t) ≤ length l
  long_twisted e = omega (arith, known_long k, ap (λ (t : Twist). length (twist_bytes t)) e)

  pub upgraded_is : moved (kind_for d.draft.choice S) l (0 ∷ []) 25 ≡ upgraded l
  unfolding upgraded
  upgraded_is = ap (λ (f : Form). over (kind_for f.choice S) l) (sym form_known)

  pub downgraded_is : moved (kind_for d.draft.choice Plain) l [] 26 ≡ downgraded l
  unfolding downgraded
  downgraded_is = ap (λ (f : Form). back (kind_for f.choice Plain) l) (sym form_known)

  -- how long the ruler is without its twist
  pub downgraded_long : d.twist ≡ Z → length (downgraded l) ≡ length l - 1
  downgraded_long e = ap length (sym downgraded_is) ∙ omega (arith, back_long (kind_for d.draft.choice Plain) l long_old, long_twisted e)

  pub z_is : {t : Twist} → d.twist ≡ t → is_z (form_in l).twist ≡ is_z t
  z_is e = ap (λ (f : Form). is_z f.twist) form_known ∙ ap is_z e

module _ (l old : List ℕ) where
  pub not_old : is_ruler l ≡ false → is_old l ≡ false
  unfolding is_old
  not_old e = rw e

  pub not_twisted : is_ruler l ≡ false → is_twisted l ≡ false
  unfolding is_twisted
  not_twisted e = rw e

  pub upgrade_14 : is_old l ≡ false → ruler_upgrade l old ≡ (refused 14, old)
  unfolding ruler_upgrade
  upgrade_14 e = rw e

  pub upgrade_moves : is_old l ≡ true → ruler_upgrade l old ≡ list_written (upgraded l) old
  unfolding ruler_upgrade
  upgrade_moves e = rw e

  pub downgrade_14 : is_twisted l ≡ false → ruler_downgrade l old ≡ (refused 14, old)
  unfolding ruler_downgrade
  downgrade_14 e = rw e

  module _ (e : is_twisted l ≡ true) where
    pub downgrade_moves : is_z (form_in l).twist ≡ false → ruler_downgrade l old ≡ list_written (downgraded l) old
    unfolding ruler_downgrade
    downgrade_moves g = rw (e, g)

    pub downgrade_short : {n : ℕ} → length (downgraded l) ≡ n → length old < n → ruler_downgrade l old ≡ (refused 13, old)
    unfolding ruler_downgrade
    downgrade_short {n} s h = rw (e, s, lt-ltb (length old) n h)

    pub downgrade_16 : {n : ℕ} → length (downgraded l) ≡ n → n ≤ length old → is_z (form_in l).twist ≡ true → ruler_downgrade l old ≡ (refused 16, old)
    unfolding ruler_downgrade
    downgrade_16 {n} s h g = rw (e, s, le-ltb (length old) n h, g)
