-- Every row of specs/Worked holds, by computing; and statements beside those of specs/Histories that are wrong, each refuted on the smallest input that
-- tells. Assumes nothing.
use mathlib.Core.Path.{◌≡◌, refl, sym, ap}
use mathlib.Core.Bool.{true}
use mathlib.Core.List.{List, [], ◌∷◌}
use Prim.Native.Nat.{ℕ, ◌+◌, ◌-◌, ◌≤◌, ◌<◌}
use native.Mathlib.Omega.{arith}
use lib.IntN.{ℤ, pos}
use lib.ListN.{length, get_or, replicate}
use Rattle.ranged1d.specs.Answer.{Answer}
use Rattle.ranged1d.specs.Numbers.{every}
use Rattle.ranged1d.proofs.Answers.{not-both}
use Rattle.linspace.specs.List.{whole, stepped, against, entries}
use Rattle.linspace.specs.Calls.{step_index_of}
use Rattle.chart.specs.Chart.{Setting, Pulling, done, chart_size, chart_in, empty_chart, pin_entry, chart_pin, chart_set, chart_pull}
use Rattle.chart.specs.Histories.{Action, left_by, pins, BothAccepted}
use Rattle.chart.specs.Worked.{holds, rows}

pub worked : every holds rows ≡ true
unfolding chart_pin pin_entry step_index_of stepped against entries
worked = refl

-- the first entry of 0..10 by 5
abbrev set_first : Action
set_first = record { deed = Setting; pin = pos 0 }

abbrev pull_first : Action
pull_first = record { deed = Pulling; pin = pos 0 }

-- ---- wrong: refused actions are counted too. From an empty chart a pin is pulled, which is refused, and then one is set.
abbrev RefusedToo : Type 0
RefusedToo =
    (a b d : ℤ) (xs : List Action) (old : List ℕ) → chart_in old ≡ empty_chart → (k : ℕ) → k < chart_size
    → get_or (left_by a b d xs old) k 0 ≡ pins a b d Setting k xs - pins a b d Pulling k xs

pub not_refused_too : RefusedToo → ⊥
unfolding left_by pins chart_pin pin_entry step_index_of stepped against entries empty_chart
not_refused_too h =
    let n : ◌≡◌ {A = ℕ} 1 0 = h (pos 0) (pos 10) (pos 5) (pull_first ∷ set_first ∷ []) empty_chart refl 0 (omega arith) in
    let z : ⊥ = omega (arith, n) in z

-- ---- wrong: the last count of the list stays zero too. A pin is set at the second entry of two.
abbrev LastToo : Type 0
LastToo =
    (a b d : ℤ) (xs : List Action) (old : List ℕ) → chart_in old ≡ empty_chart → (k : ℕ) → length (stepped whole a b d) ≤ k + 1 → k < chart_size
    → get_or (left_by a b d xs old) k 0 ≡ 0

pub not_last_too : LastToo → ⊥
unfolding left_by chart_pin pin_entry step_index_of stepped against entries empty_chart
not_last_too h =
    let n : ◌≡◌ {A = ℕ} 1 0 = h (pos 0) (pos 10) (pos 5) (record { deed = Setting; pin = pos 5 } ∷ []) empty_chart refl 1 (omega arith) (omega arith) in
    let z : ⊥ = omega (arith, n) in z

-- ---- wrong: two accepted actions in either order at the same entry. From an empty chart a pin is set and pulled; the other way about it cannot be pulled.
abbrev SameEntry : Type 0
SameEntry = (a b d : ℤ) (x y : Action) (old : List ℕ) → BothAccepted a b d x y old → left_by a b d (x ∷ y ∷ []) old ≡ left_by a b d (y ∷ x ∷ []) old

pub not_same_entry : SameEntry → ⊥
unfolding left_by chart_pin pin_entry step_index_of stepped against entries empty_chart
not_same_entry h =
    let n : ◌≡◌ {A = ℕ} 0 1 = ap (λ (l : List ℕ). get_or l 0 0) (h (pos 0) (pos 10) (pos 5) set_first pull_first empty_chart (refl, refl)) in
    let z : ⊥ = omega (arith, n) in z

-- ---- wrong: a pin that was pulled can be set again whatever the count was. 65,536 is no number of 16 bits: pulled, it is full.
abbrev AnyCount : Type 0
AnyCount = (a b d pin : ℤ) (old : List ℕ) → (chart_pull a b d pin old).0 ≡ done → chart_set a b d pin (chart_pull a b d pin old).1 ≡ (done, old)

pub not_any_count : AnyCount → ⊥
unfolding chart_pin pin_entry step_index_of stepped against entries
not_any_count h = not-both (ap (λ (r : Answer Unit × List ℕ). r.0) (sym (h (pos 0) (pos 10) (pos 5) (pos 0) (replicate chart_size 65_536) refl)))
