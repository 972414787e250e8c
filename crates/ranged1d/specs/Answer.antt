-- The vocabulary of every rule: what a call answers, which refusal it meets first, and what lent memory holds afterwards.
-- Assumes nothing.
use Rattle.std.specs.Prelude.{ℕ, suc, ◌≡◌, Bool, true, cond, not, ◌&&◌, List, [], ◌∷◌, ◌++◌, ltb, eqb, length, drop}
use Rattle.ranged1d.specs.Numbers.{every}

-- 01 "Why a call stops": a call gives its answer, or answers that there is none, or is refused with a number. None is no refusal.
pub data Answer (A : Type 0) : Type 0 where
  given : A → Answer A
  none : Answer A
  refused : ℕ → Answer A

-- A reason to refuse: its number, and whether it applies to these arguments.
pub record Reason : Type 0 where
  pub number : ℕ
  pub applies : Bool

infix 68 ◌when◌
abbrev pub ◌when◌ : ℕ → Bool → Reason
n when t = record { number = n; applies = t }

-- 01 "Why a call stops": of the refusals that apply, the lowest is returned; 02 gives each of its own a place among them. A rule lists
-- its reasons by rising places, and the first that applies decides; `lowest_is_least` of proofs/Lowest says that it is then the lowest.
abbrev pub lowest : {A : Type 0} → List Reason → Answer A → Answer A
lowest [] a = a
lowest (r ∷ rs) a = cond r.applies (refused r.number) (lowest rs a)

-- The numbers of all refusals, the lowest first: 01's as they rise, and each of 02's at the place that 02 gives it among them.
abbrev pub order : List ℕ
order = 23 ∷ 26 ∷ 27 ∷ 1 ∷ 2 ∷ 18 ∷ 3 ∷ 4 ∷ 5 ∷ 6 ∷ 7 ∷ 8 ∷ 9 ∷ 20 ∷ 21 ∷ 22 ∷ 10 ∷ 19 ∷ 11 ∷ 12 ∷ 28 ∷ 17 ∷ 24 ∷ 25 ∷ 13 ∷ 14 ∷ 15 ∷ 16 ∷ []

-- The place of a number in that order, counted from 1; 0 for a number that is not there.
abbrev pub place_from : ℕ → List ℕ → ℕ → ℕ
place_from k [] n = 0
place_from k (x ∷ xs) n = cond (eqb x n) k (place_from (suc k) xs n)

unfoldable pub rank : ℕ → ℕ
rank n = place_from 1 order n

-- The places of reasons rise, from above the place k.
abbrev pub rising : ℕ → List Reason → Bool
rising k [] = true
rising k (r ∷ rs) = ltb k (rank r.number) && rising (rank r.number) rs

-- Lent memory that held `old`, once a call has this answer: an answer stands at its start and leaves the rest as it was; none and a
-- refusal write nothing.
abbrev pub held_after : {A B : Type 0} → Answer A → List B → List B → List B
held_after (given a) new old = new ++ drop (length new) old
held_after none new old = old
held_after (refused n) new old = old

-- The whole of what a call with lent memory does: its answer, and what the memory then holds.
abbrev pub written : {A B : Type 0} → Answer A → List B → List B → Answer A × List B
written a new old = (a, held_after a new old)

-- One answer after the other: the first that is missing or refused decides.
abbrev pub and_then : {A B : Type 0} → Answer A → (A → Answer B) → Answer B
and_then (given x) f = f x
and_then none f = none
and_then (refused n) f = refused n

-- Two answers side by side: both give something, and R says how the one stands to the other; or there is none on either side; or both are refused with
-- the same number.
pub data Paired {A : Type 0} (R : A → A → Type 0) : Answer A → Answer A → Type 0 where
  both_given : {x y : A} → R x y → Paired R (given x) (given y)
  both_none : Paired R none none
  both_refused : {n : ℕ} → Paired R (refused n) (refused n)

-- A list that is put into lent memory, 13 where that is too short for it; else how many entries it has.
abbrev pub list_written : {A : Type 0} → List A → List A → Answer ℕ × List A
list_written l old = written (lowest (13 when ltb (length old) (length l) ∷ []) (given (length l))) l old

-- None of the reasons applies.
abbrev pub none_of : List Reason → Bool
none_of rs = every (λ r. not r.applies) rs

-- Lent memory is long enough for n numbers on one side and for n' on the other, or on neither. That is asked only where none of the reasons applies for
-- which a call stops whatever is lent: elsewhere there is nothing to write, and so no length that would be enough.
abbrev pub BothLong : {A : Type 0} → List Reason → ℕ → List A → ℕ → List A → Type 0
BothLong reasons n old n' old' = none_of reasons ≡ true → ltb (length old) n ≡ ltb (length old') n'
