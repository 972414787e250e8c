-- What a call with lent memory has written, and that of its mirror, by their answers. Assumes nothing.
use mathlib.Core.Path.{◌≡◌, sym, ap, ◌∙◌, subst}
use mathlib.Core.Bool.{Bool, true, false}
use mathlib.Core.List.{List, []}
use mathlib.Core.Logic.{◌⊎◌, inl, inr}
use Prim.Native.Nat.{ℕ}
use lib.Dec.{T}
use lib.ListN.{length, drop}
use lib.Seq.{take-append_seam}
use Rattle.ranged1d.specs.Answer.{Answer, given, refused, Reason, lowest, written}
use Rattle.ranged1d.proofs.Answers.{not-both}
use Rattle.ranged1d.proofs.Lowest.{NoneOf, given_tests, either}
use Rattle.ruler.specs.Mirror.{Verdict, accepted, empty, stopped, verdict}
use Rattle.mirror.specs.Mirror.{wrote, Alike}

-- a refusal is no answer
abbrev is_accepted : Verdict → Bool
is_accepted accepted = true
is_accepted empty = false
is_accepted (stopped n) = false

not_stopped : (n : ℕ) → stopped n ≡ accepted → ⊥
not_stopped n e = subst T (sym (ap is_accepted e)) tt

-- an accepted call gives the answer behind its reasons
pub accepted_is : {A : Type 0} (x : A) (rs : List Reason) → verdict (lowest rs (given x)) ≡ accepted → lowest rs (given x) ≡ given x
accepted_is x rs e = go (either x rs)
  where
    go : (lowest rs (given x) ≡ given x) ⊎ ((n : ℕ) × (lowest rs (given x) ≡ refused n)) → lowest rs (given x) ≡ given x
    go (inl h) = h
    go (inr h) = absurd (not_stopped h.0 (sym (ap verdict h.1) ∙ e))

-- so that no reason applies
pub accepted_tests : {A : Type 0} (x : A) (rs : List Reason) → verdict (lowest rs (given x)) ≡ accepted → NoneOf rs
accepted_tests x rs e = (given_tests rs (given x) (accepted_is x rs e)).0

-- ---- what was written
pub wrote_is : {A B : Type 0} (many : A → ℕ) (answer : Answer A) (x : A) (new old : List B) → many x ≡ length new → answer ≡ given x → wrote many (written answer new old) ≡ new
wrote_is many answer x new old n e = rw (e, n) (take-append_seam new (drop (length new) old))

-- a list and its mirror, written by calls that answer alike
module _ {B : Type 0} (Turned : List B → List B → Type 0) (nothing : Turned [] []) where
  pub turned-wrote : (rs rs' : List Reason) (new new' old old' : List B) → Turned new' new
      → lowest rs' (given (length new')) ≡ lowest rs (given (length new))
      → Alike Turned (written (lowest rs' (given (length new'))) new' old') (written (lowest rs (given (length new))) new old)
  turned-wrote rs rs' new new' old old' t e = record { verdicts = e; entries = go (either (length new) rs) (either (length new') rs') }
    where
      go : (lowest rs (given (length new)) ≡ given (length new)) ⊎ ((n : ℕ) × (lowest rs (given (length new)) ≡ refused n))
          → (lowest rs' (given (length new')) ≡ given (length new')) ⊎ ((n : ℕ) × (lowest rs' (given (length new')) ≡ refused n))
          → Turned (wrote (λ n. n) (written (lowest rs' (given (length new'))) new' old')) (wrote (λ n. n) (written (lowest rs (given (length new))) new old))
      go (inl h) (inl k) = rw (h, k) (rw (take-append_seam new (drop (length new) old), take-append_seam new' (drop (length new') old')) t)
      go (inl h) (inr k) = absurd (not-both (sym h ∙ sym e ∙ k.1))
      go (inr h) (inl k) = absurd (not-both (sym k ∙ e ∙ h.1))
      go (inr h) (inr k) = rw (h.1, k.1) nothing
