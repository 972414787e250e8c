-- Every mark of an axis that has a ruler has a place, the one in its record, so that the writer never meets 5. Assumes nothing.
use Rattle.std.proofs.Common.{◌≡◌, ℕ, ◌<◌, true, false, List, length, get_or, ℤ, pos, sym, refl, ap, ◌∙◌}
use borrow.Author.Tests.{not-false}
use Rattle.std.specs.Prelude.{Result, Ok, Err}
use Rattle.std.specs.Result.{result_unwrap_or}
use Rattle.ranged1d.specs.Answer.{Answer, given}
use Rattle.ranged1d.specs.Told.{tell}
use Rattle.ranged1d.specs.declared.Refusal.{Refusal}
use Rattle.ranged1d.specs.Admitted.{limit_admitted, ends_admitted}
use Rattle.ranged1d.specs.declared.Limit.{Limit}
use Rattle.ranged1d.proofs.Lowest.{NoneOf, none_of_lem}
use Rattle.numeric.specs.declared.Choice.{Choice}
use Rattle.numeric.specs.Marks.{marks_by, no_step}
use Rattle.numeric.specs.Calls.{plan_by, plan_with, element}
use Rattle.numeric.proofs.Lists.{entry}
use Rattle.numeric.proofs.Plans.{planned_good_by}
use Rattle.numeric.proofs.Inside.{plan_by_lem}
use Rattle.numeric.proofs.Places.{mark-placed}
use Rattle.real.specs.Place.{whole_place}
use Rattle.ruler.specs.Place.{place_in, place_of}
use Rattle.ruler.specs.Rule.{no_ruler, has_ruler}

module _ (a b : ℤ) (limit : Limit) (m : ℕ) (h : has_ruler a b limit m ≡ true) where
  stopped_by_none : NoneOf (no_ruler a b limit m)
  unfolding has_ruler
  stopped_by_none = none_of_lem (no_ruler a b limit m) h

  pub ends : ends_admitted a b ≡ true
  ends = not-false (ends_admitted a b) stopped_by_none.0

  pub film : limit_admitted limit ≡ true
  film = not-false (limit_admitted limit) stopped_by_none.1.0

  pub served : no_step a b m ≡ false
  served = stopped_by_none.1.1.0

  pub plan : (c : Choice) → plan_by c a b m ≡ given (plan_with c a b m)
  plan c = plan_by_lem c a b m ∙ rw (ends, served) refl

  pub every-placed : (c : Choice) (k : ℕ) → k < length (marks_by c a b m) → whole_place a b (get_or (marks_by c a b m) k (pos 0)) limit ≡ given (place_of a b limit (get_or (marks_by c a b m) k (pos 0)))
  unfolding place_of
  every-placed c k l =
      let g = planned_good_by c a b m (plan c) in
      let p = plan_with c a b m in
      let v = element p.first p.step k in
      let at = mark-placed c a b m (plan c) limit film k l in
      let v_is : get_or (marks_by c a b m) k (pos 0) ≡ v = ap (λ (x : List ℤ). get_or x k (pos 0)) g.marks-are ∙ entry (element p.first p.step) (pos 0) p.count k l in
      rw v_is (at.is ∙ sym (ap (λ (r : Answer ℤ). given (place_in r)) at.is))

-- the place in an answer, as the call gives it
pub answered : (r : Result ℤ Refusal) → place_in (tell r) ≡ result_unwrap_or r (pos 0)
answered (Ok x) = refl
answered (Err r) = refl
