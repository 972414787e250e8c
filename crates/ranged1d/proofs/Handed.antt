-- A refusal that a `?` hands on: the call is refused with its number. Assumes nothing.
use Rattle.std.specs.Prelude.{◌≡◌, Option, Result, Ok, Err, IsErr, IsErrAnd}
use Rattle.std.proofs.Common.{ap, rules}
use Rattle.ranged1d.specs.Answer.{refused}
use Rattle.ranged1d.specs.Refusals.{number_of}
use Rattle.ranged1d.specs.Told.{tell, tell_found}
use Rattle.ranged1d.specs.declared.Refusal.{Refusal}

is : {A : Type 0} (r : Result A Refusal) (e : Refusal) → IsErr r × IsErrAnd r (λ x. x ≡ e) → r ≡ Err e
is (Ok x) e h = search rules
is (Err x) e h = ap Err h.1

pub handed : {A : Type 0} (r : Result A Refusal) (e : Refusal) → IsErr r × IsErrAnd r (λ x. x ≡ e) → tell r ≡ refused (number_of e)
handed r e h = ap tell (is r e h)

pub handed_found : {A : Type 0} (r : Result (Option A) Refusal) (e : Refusal) → IsErr r × IsErrAnd r (λ x. x ≡ e) → tell_found r ≡ refused (number_of e)
handed_found r e h = ap tell_found (is r e h)
