-- What the proofs on searches ask of an order and its equality, in either direction. Assumes nothing.
use mathlib.Core.Path.{◌≡◌, refl, ◌∙◌}
use mathlib.Core.Bool.{Bool, true, false}
use Rattle.search.specs.Lists.{toward}
pub use Rattle.search.specs.Orders.{Order}

-- nothing comes before itself
pub not_itself : {A : Type 0} {lt eq : A → A → Bool} → Order A lt eq → (x : A) → lt x x ≡ false
not_itself {lt = lt} o x = go (lt x x) refl
  where
    go : (t : Bool) → lt x x ≡ t → lt x x ≡ false
    go true e = o.asym x x e
    go false e = e

-- what x comes before, y comes before too, if x does not come before y
pub past_too : {A : Type 0} {lt eq : A → A → Bool} → Order A lt eq → (x y z : A) → eq x x ≡ true → eq y y ≡ true → lt x y ≡ false → lt x z ≡ true → lt y z ≡ true
past_too {lt = lt} {eq = eq} o x y z p q n h = go (eq x y) refl
  where
    go : (t : Bool) → eq x y ≡ t → lt y z ≡ true
    go true e = o.follow y x z (o.even y x ∙ e) h
    go false e = o.trans y x z (o.total x y p q n e) h

-- the same order downward
pub turned : {A : Type 0} {lt eq : A → A → Bool} → Order A lt eq → Order A (λ x y. lt y x) eq
turned o = record {
  trans = λ x y z p q. o.trans z y x q p;
  asym = λ x y p. o.asym y x p;
  apart = λ x y p. o.even x y ∙ o.apart y x p;
  even = o.even;
  follow = λ x y z p q. o.lead z y x q (o.even y x ∙ p);
  lead = λ x y z p q. o.follow z y x (o.even z y ∙ q) p;
  left = λ x y p. o.right y x p;
  right = λ x y p. o.left y x p;
  total = λ x y p q l e. o.total y x q p l (o.even y x ∙ e);
}

-- the order of a list that rises or falls
pub way : {A : Type 0} {lt eq : A → A → Bool} → Order A lt eq → (rises : Bool) → Order A (toward rises lt) eq
way o true = o
way o false = turned o

-- ---- a test that is passed by whatever lies between two that pass it, in either direction
abbrev pub Between : {A : Type 0} → (A → A → Bool) → (A → Bool) → Type 0
Between {A} lt p = (x y z : A) → lt x y ≡ true → lt y z ≡ true → p x ≡ true → p z ≡ true → p y ≡ true

pub between-toward : {A : Type 0} {lt : A → A → Bool} {p : A → Bool} (rises : Bool) → Between lt p → Between (toward rises lt) p
between-toward true b = b
between-toward false b = λ x y z e f g h. b z y x f e h g
