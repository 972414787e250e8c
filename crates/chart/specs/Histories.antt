-- Charts over time, 02 (h): what holds after every list of pins that are set and pulled, said over the rules that the calls promise. `histories` of
-- proofs/Histories proves it of every axis. Assumes nothing.
use Rattle.std.specs.Prelude.{ℕ, ◌+◌, ◌-◌, ◌≤◌, ◌<◌, ◌≡◌, Bool, true, false, cond, ◌&&◌, List, [], ◌∷◌, eqb, ℤ, length, get_or, drop}
use Rattle.ranged1d.specs.Answer.{Answer, given, none, refused}
use Rattle.linspace.specs.List.{whole, stepped}
use Rattle.chart.specs.Chart.{Deed, Setting, Pulling, done, is_given, chart_size, chart_in, empty_chart, chart_clear, pin_entry, chart_pin, chart_set, chart_pull}

-- an action: a pin that is set, or one that is pulled
pub record Action : Type 0 where
  pub deed : Deed
  pub pin : ℤ

abbrev pub same_deed : Deed → Deed → Bool
same_deed Setting Setting = true
same_deed Setting Pulling = false
same_deed Pulling Setting = false
same_deed Pulling Pulling = true

-- whether the entry of a pin is entry k
abbrev pub is_at : ℕ → Answer ℕ → Bool
is_at k (given j) = eqb j k
is_at k none = false
is_at k (refused n) = false

module _ (a b d : ℤ) where
  -- what the call of an action answers, and what it leaves in the lent memory: the rule that the call promises
  abbrev pub act : Action → List ℕ → Answer Unit × List ℕ
  act x old = chart_pin a b d x.deed x.pin old

  -- ---- a history: one action after the other, each on the memory that those before it have left
  unfoldable pub left_by : List Action → List ℕ → List ℕ
  left_by [] old = old
  left_by (x ∷ xs) old = left_by xs (act x old).1

  -- the actions that were not refused when their turn came
  unfoldable pub accepted_of : List Action → List ℕ → List Action
  accepted_of [] old = []
  accepted_of (x ∷ xs) old = cond (is_given (act x old).0) (x ∷ accepted_of xs (act x old).1) (accepted_of xs (act x old).1)

  -- how many of the actions set a pin at entry k, or pull one there
  abbrev pub does : Deed → ℕ → Action → Bool
  does deed k x = same_deed deed x.deed && is_at k (pin_entry a b d x.pin)

  unfoldable pub pins : Deed → ℕ → List Action → ℕ
  pins deed k [] = 0
  pins deed k (x ∷ xs) = cond (does deed k x) (pins deed k xs + 1) (pins deed k xs)

  -- ---- what holds after any history that began with an empty chart
  pub record Balanced (xs : List Action) (old : List ℕ) : Type 0 where
    -- a count is the number of pins set at its entry less that of pins pulled there, refused actions left out; and no more were pulled than set
    pub count : (k : ℕ) → k < chart_size → get_or (left_by xs old) k 0 ≡ pins Setting k (accepted_of xs old) - pins Pulling k (accepted_of xs old)
    pub fewer : (k : ℕ) → k < chart_size → pins Pulling k (accepted_of xs old) ≤ pins Setting k (accepted_of xs old)
    -- counts past the list are zero still
    pub past : (k : ℕ) → length (stepped whole a b d) ≤ k → k < chart_size → get_or (left_by xs old) k 0 ≡ 0

  -- ---- two actions in either order: each is answered as if the other were not, and the memory after both is the same
  pub record EitherOrder (x y : Action) (old : List ℕ) : Type 0 where
    pub first : (act x (act y old).1).0 ≡ (act x old).0
    pub second : (act y (act x old).1).0 ≡ (act y old).0
    pub same : left_by (x ∷ y ∷ []) old ≡ left_by (y ∷ x ∷ []) old

  -- both accepted, the one first or the other
  abbrev pub BothAccepted : Action → Action → List ℕ → Type 0
  BothAccepted x y old = ((act x old).0 ≡ done) × ((act y (act x old).1).0 ≡ done)

  -- ---- the statements, of any lent memory
  pub record Histories : Type 0 where
    -- what an accepted `clear` leaves is an empty chart
    pub cleared : (old : List ℕ) → (chart_clear a b d old).0 ≡ done → chart_in (chart_clear a b d old).1 ≡ empty_chart
    -- an action that is refused changes nothing, and one that is not changes no count but that at its entry
    pub unchanged : (x : Action) (old : List ℕ) → is_given (act x old).0 ≡ false → (act x old).1 ≡ old
    pub elsewhere : (x : Action) (old : List ℕ) (k : ℕ) → is_at k (pin_entry a b d x.pin) ≡ false → get_or (act x old).1 k 0 ≡ get_or old k 0
    -- after every list of actions from an empty chart
    pub counted : (xs : List Action) (old : List ℕ) → chart_in old ≡ empty_chart → Balanced xs old
    -- memory behind the chart keeps its contents, whatever chart it is
    pub behind : (xs : List Action) (old : List ℕ) → drop chart_size (left_by xs old) ≡ drop chart_size old
    -- two actions at different entries, accepted or not
    pub either_order : (x y : Action) (old : List ℕ) → (pin_entry a b d x.pin ≡ pin_entry a b d y.pin → ⊥) → EitherOrder x y old
    -- and two that are accepted: they are accepted in the other order too, and leave the same chart
    pub both_accepted : (x y : Action) (old : List ℕ) → (pin_entry a b d x.pin ≡ pin_entry a b d y.pin → ⊥) → BothAccepted x y old
        → BothAccepted y x old × (left_by (x ∷ y ∷ []) old ≡ left_by (y ∷ x ∷ []) old)
    -- a pin that was set can be pulled, one that was pulled can be set, the counts being those of 16 bits; and the memory is then what it was
    pub pulled_again : (pin : ℤ) (old : List ℕ) → (chart_set a b d pin old).0 ≡ done → chart_pull a b d pin (chart_set a b d pin old).1 ≡ (done, old)
    pub set_again : (pin : ℤ) (old : List ℕ) → ((k : ℕ) → get_or old k 0 ≤ 65_535) → (chart_pull a b d pin old).0 ≡ done → chart_set a b d pin (chart_pull a b d pin old).1 ≡ (done, old)
