-- What a test that is put together of two says of each, and what it is by one of them; what holds by either value of a test; whether two tests
-- differ; the two cases of a test, and of the order of two numbers. Assumes nothing.
use mathlib.Core.Path.{◌≡◌, refl, sym}
use mathlib.Core.Logic.{◌⊎◌, inl, inr}
use Prim.Native.Nat.{ℕ, ◌≤◌, ◌<◌}
use borrow.Author.Tests.{leb-true, leb-false}
use lib.Dec.{leb}
use mathlib.Core.Bool.{Bool, true, false, cond, not, beq, true≢false, ◌&&◌, ◌||◌, or-true}

pub both_true : (x y : Bool) → (x && y) ≡ true → (x ≡ true) × (y ≡ true)
both_true true y h = (refl, h)
both_true false y h = absurd (true≢false (sym h))

pub both_false : (x y : Bool) → (x || y) ≡ false → (x ≡ false) × (y ≡ false)
both_false true y h = absurd (true≢false h)
both_false false y h = (refl, h)

pub or_right : (x y : Bool) → y ≡ true → (x || y) ≡ true
or_right x y h = rw h (or-true x)

-- what holds of both holds of the one that is chosen
pub chosen : {A : Type 0} (P : A → Type 0) (b : Bool) {x y : A} → P x → P y → P (cond b x y)
chosen P true p q = p
chosen P false p q = q

-- where both are the same, either is
pub cond_same : {A : Type 0} (c : Bool) {x y : A} → x ≡ y → cond c x y ≡ y
cond_same true e = e
cond_same false e = refl

-- a test whether two tests differ
pub apart : (x y : Bool) → not (beq x y) ≡ true → x ≡ y → ⊥
apart true true h e = true≢false (sym h)
apart true false h e = true≢false e
apart false true h e = true≢false (sym e)
apart false false h e = true≢false (sym h)

pub alike : (x y : Bool) → not (beq x y) ≡ false → x ≡ y
alike true true h = refl
alike true false h = absurd (true≢false h)
alike false true h = absurd (true≢false h)
alike false false h = refl

pub yes_or : (t : Bool) → (t ≡ true) ⊎ (t ≡ false)
yes_or true = inl refl
yes_or false = inr refl

pub le_or : (a b : ℕ) → (a ≤ b) ⊎ (b < a)
le_or a b = go (leb a b) refl
  where
    go : (t : Bool) → leb a b ≡ t → (a ≤ b) ⊎ (b < a)
    go true e = inl (leb-true a b e)
    go false e = inr (leb-false a b e)
