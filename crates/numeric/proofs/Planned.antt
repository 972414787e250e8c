-- A plan is what its parts make it, once the step is chosen: for the axis from lo to hi. Assumes nothing.
use Rattle.std.specs.Prelude.{◌≡◌, true, false, Result, Ok, Err, ◌<◌, ℕ, ℤ, pos, ◌*ℤ◌, length}
use Rattle.std.proofs.Common.{refl, ap, ◌∙◌, arith}
use borrow.Author.Tests.{le-leb, lt-leb}
use lib.Signed.{le_z}
use Rattle.ranged1d.specs.Refusals.{number_of}
use Rattle.ranged1d.specs.declared.Refusal.{Refusal}
use Rattle.ranged1d.specs.declared.Refusal.TheVariants.{NoStep}
use Rattle.numeric.specs.declared.Choice.{Choice}
use Rattle.numeric.specs.declared.KeyPoints.{KeyPoints}
use Rattle.numeric.specs.Marks.{distance, chosen, step_at, first_index, last_by, how_many, no_step_for, step_for, marks_by}
use Rattle.numeric.specs.Calls.{plan_with}
use Rattle.numeric.proofs.Inside.{count_by}

abbrev number : Result ℕ Refusal → ℕ
number (Ok k) = 0
number (Err r) = number_of r

pub refused_step : (r : Refusal) → ◌≡◌ {A = Result ℕ Refusal} (Err r) (Err NoStep) → number_of r ≡ 3
refused_step r e = ap number e

module _ (lo hi : ℤ) (m : ℕ) {d : ℕ} (far : d ≡ distance lo hi) where
  pub not_served : (chosen d m < 28 → ⊥) → no_step_for lo hi m ≡ true
  unfolding no_step_for
  not_served h = rw (← far) (le-leb _ _ (omega (arith, h)))

  pub served : chosen d m < 28 → no_step_for lo hi m ≡ false
  unfolding no_step_for
  served h = rw (← far) (lt-leb _ _ h)

  pub step_is : {k : ℕ} → k ≡ chosen d m → step_for lo hi m ≡ step_at k
  unfolding step_for
  step_is e = rw (← far, e) refl

abbrev pub points : Choice → ℤ → ℤ → ℕ → KeyPoints
points c lo hi s = record { first = first_index lo s *ℤ pos s; step = pos s; count = how_many (first_index lo s) (last_by c hi s) }

pub planned : (c : Choice) (lo hi : ℤ) (m : ℕ) {s : ℕ} → le_z lo hi ≡ true → step_for lo hi m ≡ s → plan_with c lo hi m ≡ points c lo hi s
planned c lo hi m {s} h e =
    let n_is : length (marks_by c lo hi m) ≡ how_many (first_index lo s) (last_by c hi s) = count_by c lo hi m ∙ rw (h, e) refl in
    rw (n_is, h, e) refl
