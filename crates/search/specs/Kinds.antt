-- The two kinds of entries, whole numbers and floats, keep the law of the trait `Entry`. Floats are ordered by IEEE 754's comparisons,
-- but for a NaN, which equals nothing. Assumes nothing.
use Rattle.std.specs.Prelude.{◌≡◌, refl, Bool, true, false, not, T, ℤ, Float}
use Rattle.std.specs.Int.Signed.{le_z, <ℤ-≤ℤ_trans}
use Rattle.std.specs.Float.{NotNan}
use Rattle.std.specs.Float.Ieee.{lt, eq}
use Rattle.std.proofs.Common.{sym, ap, subst, ◌∙◌}
use Rattle.std.proofs.lemmas.Float.{le_refl, lt_irrefl, le_of_lt, le_of_eq, lt-or-eq, le_of_not-lt, le_left, le_right, lt_trans, lt_of_lt_of_le, lt_of_le_of_lt, eq_flip, eq-not_lt, floats_per, T_from_true, T_from_false}
use mathlib.Core.Bool.{true≢false, and_comm, and-true}
use mathlib.Core.Logic.{inl, inr}
use Rattle.ranged1d.proofs.Whole.{not_lt, lt_le, lt_not, same_yes, same_is, less_not_above, yes_le, yes_lt, lt_yes}
use Rattle.search.specs.Search.{wholes, reals}
use Rattle.search.specs.Orders.{Order}

pub whole-order : Order ℤ wholes.less wholes.equal
whole-order = record {
  trans = λ x y z p q. lt_yes {x = x} {y = z} (<ℤ-≤ℤ_trans {a = x} {b = y} {c = z} (yes_lt p) (yes_le (less_not_above y z q)));
  asym = λ x y p. lt_le y x ∙ ap not (less_not_above x y p);
  apart = λ x y p. rw (lt_not x y p, less_not_above x y p) refl;
  even = λ x y. and_comm (le_z x y) (le_z y x);
  follow = λ x y z p q. subst (λ w. wholes.less w z ≡ true) (sym (same_is x y p)) q;
  lead = λ x y z p q. subst (λ w. wholes.less x w ≡ true) (same_is y z q) p;
  left = λ x y p. same_yes x x refl;
  right = λ x y p. same_yes y y refl;
  total = λ x y p q l e. lt_le y x ∙ ap not (sym (and-true (le_z x y)) ∙ (rw (not_lt x y l) at e));
}

-- a test that holds, and one that does not
yes : (b : Bool) → T b → b ≡ true
yes true t = refl
yes false t = absurd t

no : (b : Bool) → (T b → ⊥) → b ≡ false
no true f = absurd (f tt)
no false f = refl

lies : (x y : Float) → lt x y ≡ true → T (lt x y)
lies x y p = T_from_true (lt x y) p

levels : (x y : Float) → eq x y ≡ true → T (eq x y)
levels x y p = T_from_true (eq x y) p

-- what is no NaN equals itself, and the other way round
own : (x : Float) → NotNan x → eq x x ≡ true
own x n = elim (lt-or-eq x x (le_refl x n)) [ inl l ↦ absurd (lt_irrefl x l) | inr e ↦ yes (eq x x) e ]

number : (x : Float) → eq x x ≡ true → NotNan x
number x e = le_left x x (le_of_eq x x (levels x x e))

pub real-order : Order Float reals.less reals.equal
real-order = record {
  trans = λ x y z p q. yes (lt x z) (lt_trans x y z (lies x y p) (lies y z q));
  asym = λ x y p. no (lt y x) (λ q. lt_irrefl x (lt_trans x y x (lies x y p) q));
  apart = λ x y p. no (eq x y) (λ e. eq-not_lt x y e (lies x y p));
  even = floats_per.symm;
  follow = λ x y z e p. yes (lt x z) (lt_of_le_of_lt x y z (le_of_eq x y (levels x y e)) (lies y z p));
  lead = λ x y z p e. yes (lt x z) (lt_of_lt_of_le x y z (lies x y p) (le_of_eq y z (levels y z e)));
  left = λ x y p. own x (le_left x y (le_of_lt x y (lies x y p)));
  right = λ x y p. own y (le_right x y (le_of_lt x y (lies x y p)));
  total = λ x y p q l e. yes (lt y x)
      (elim (lt-or-eq y x (le_of_not-lt x y (number x p) (number y q) (T_from_false (lt x y) l))) [
        | inl g ↦ g
        | inr d ↦ absurd (true≢false (sym (yes (eq x y) (eq_flip y x d)) ∙ e))
      ]);
}
