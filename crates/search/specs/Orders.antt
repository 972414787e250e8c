-- The law of the trait `Entry`: which of two entries is less, and whether they are equal, make an order. The searches rest on it; whole
-- numbers and floats keep it (specs/Kinds). Assumes nothing.
use Rattle.std.specs.Prelude.{◌≡◌, Bool, true, false}

-- `total` is asked of numbers that equal themselves: a NaN does not
pub record Order (A : Type 0) (lt eq : A → A → Bool) : Type 0 where
  pub trans : (x y z : A) → lt x y ≡ true → lt y z ≡ true → lt x z ≡ true
  pub asym : (x y : A) → lt x y ≡ true → lt y x ≡ false
  pub apart : (x y : A) → lt x y ≡ true → eq x y ≡ false
  pub even : (x y : A) → eq x y ≡ eq y x
  pub follow : (x y z : A) → eq x y ≡ true → lt y z ≡ true → lt x z ≡ true
  pub lead : (x y z : A) → lt x y ≡ true → eq y z ≡ true → lt x z ≡ true
  pub left : (x y : A) → lt x y ≡ true → eq x x ≡ true
  pub right : (x y : A) → lt x y ≡ true → eq y y ≡ true
  pub total : (x y : A) → eq x x ≡ true → eq y y ≡ true → lt x y ≡ false → eq x y ≡ false → lt y x ≡ true
