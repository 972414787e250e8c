-- What the steps of a search find, for the promises of private functions. Assumes nothing.
use Rattle.std.specs.Prelude.{ℕ, ◌≤◌, ◌<◌, ◌≡◌, Bool, true, false, List, [], ◌∷◌, length, get_or}

-- whether the first two entries rise; a list without two counts as rising
abbrev pub rises_first : {A : Type 0} → (A → A → Bool) → List A → Bool
rises_first lt [] = true
rises_first lt (x ∷ []) = true
rises_first lt (x ∷ (y ∷ ys)) = lt x y

-- lo and hi enclose the target's place: the first lo entries come before the target, those from hi on do not
pub record Encloses {A : Type 0} (lt : A → A → Bool) (l : List A) (d t : A) (lo hi : ℕ) : Type 0 where
  pub order : lo ≤ hi
  pub within : hi ≤ length l
  pub before : (k : ℕ) → k < lo → lt (get_or l k d) t ≡ true
  pub from : (k : ℕ) → hi ≤ k → k < length l → lt (get_or l k d) t ≡ false

-- the first i entries come before the target, the others do not
abbrev pub PlaceOf : {A : Type 0} → (A → A → Bool) → List A → A → A → ℕ → Type 0
PlaceOf lt l d t i = Encloses lt l d t i i
