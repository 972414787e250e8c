-- The drafts of specs/Worked, computed; that the theorem speaks of drafts with nothing to write, whatever is lent; and statements beside demand 3 that are
-- wrong, each refuted on the smallest input that tells. Assumes nothing.
use mathlib.Core.Path.{◌≡◌, refl, sym, ap}
use mathlib.Core.Bool.{Bool, true, false, true≢false}
use mathlib.Core.List.{List, [], ◌∷◌, ◌++◌, map, reverse}
use Prim.Native.Nat.{ℕ}
use native.Mathlib.Omega.{arith}
use lib.IntN.{ℤ, pos, negsuc, neg_ℤ, ◌+ℤ◌}
use lib.ListN.{length, get_or}
use lib.Signed.{◌<ℤ◌}
use lib.Ieee.{Float, nan, inf, fin, neg, sub, div, mul, add, of_int, of_bits, eq, lt}
use Rattle.ranged1d.specs.Answer.{Answer, given}
use Rattle.ranged1d.specs.Admitted.{limit_admitted, limit_of}
use Rattle.ranged1d.specs.declared.Limit.{Limit}
use Rattle.ranged1d.proofs.Answers.{not-both, not_none}
use Rattle.ranged1d.proofs.Whole.{yes_lt}
use Rattle.rounding.specs.Within.{whole_of, within}
use Rattle.real.specs.Place.{rising, falling, along, spot, whole_place}
use Rattle.real.specs.Mirror as film
use Rattle.real.specs.Shifting.{shifted_limit}
use Rattle.decimal.specs.Print.{digits}
use Rattle.numeric.specs.declared.Choice.{Choice}
use Rattle.numeric.specs.declared.Choice.TheVariants.{Cut, Inside}
use Rattle.ruler.specs.declared.Twist.{Twist}
use Rattle.ruler.specs.declared.Twist.TheVariants.{Plain, S, Z}
use Rattle.ruler.specs.declared.Form.{Form}
use Rattle.numeric.specs.Marks.{high, step_at, first_of, chosen, no_step_for, step_for, marks_for, inside_for, step_of}
use Rattle.numeric.specs.Calls.{whole_key_points}
use Rattle.numeric.specs.Directed.{directed_value, whole_directed, negated_reading}
use Rattle.discrete.specs.Index.{floor_div, no_index, index_by}
use Rattle.numeric.specs.Mirror.{nearest_zero, Divides, OneMore, step_only}
use Rattle.numeric.proofs.Mirror.{cut-next}
use Rattle.search.specs.Lists.{searchable, whole_search}
use Rattle.search.specs.declared.RoundingMethod.{RoundingMethod}
use Rattle.search.specs.declared.RoundingMethod.TheVariants.{Ceil}
use Rattle.linspace.specs.List.{whole, real, entries, stepped, against}
use Rattle.linspace.specs.Calls.{step_values}
use Rattle.ruler.specs.Place.{place_of}
use Rattle.ruler.specs.Bytes.{kind_for, twist_bytes, Record, axis, mark, axis_body, mark_body, laid, joined}
use Rattle.ruler.specs.Rule.{one, three, records_by, bytes_by, write_by, ruler_plan_by}
use Rattle.ruler.specs.Mirror as ruler
use Rattle.ruler.proofs.Mirror.{one_record_longer}
use Rattle.ruler.specs.Mirror.{accepted, verdict}
use Rattle.mirror.specs.Mirror.{wrote, ruling, ruling_back, marking, marking_back, Rulers, Marks}
use Rattle.mirror.specs.Worked.{zeros, draft_limit, DraftMore, Worked}
use Rattle.mirror.proofs.Mirror.{demand_three}

-- ---- 01's draft
draft : DraftMore
unfolding write_by bytes_by laid axis_body mark_body digits step_at first_of chosen no_step_for step_for marks_for place_of whole_place spot along rising falling within whole_of eq sub div mul add of_int of_bits
draft = record {
  extra = pos 0;
  is_next = cut-next 5 (omega arith) 2 (λ e. let n : ⊥ = omega (arith, e) in n);
  place = pos 150;
  placed = refl;
  others = records_by one (pos 15) (pos 3) (film.mirrored draft_limit) 4;
  fewer_are = refl;
  others_match = refl;
}

-- of kind 3
draft_inside : ruler.MirrorOf (wrote (λ x. x.0) (ruling_back three (negsuc 14) (negsuc 2) draft_limit 4 (zeros 85) (zeros 85))) (wrote (λ x. x.0) (ruling three (negsuc 14) (negsuc 2) draft_limit 4 (zeros 85) (zeros 85)))
unfolding write_by bytes_by laid axis_body mark_body digits step_at first_of chosen no_step_for step_for marks_for inside_for place_of whole_place spot along rising falling within whole_of eq sub div mul add of_int of_bits
draft_inside = (records_by three (negsuc 14) (negsuc 2) draft_limit 4, refl, refl)

pub worked : Worked
unfolding draft draft_inside write_by bytes_by whole_key_points step_at first_of chosen no_step_for step_for marks_for
worked = record { draft_more = draft; draft_extra = refl; draft_place = refl; draft_inside = draft_inside; no_ruler_lem = (refl, refl); no_marks = (refl, refl) }

-- ---- nothing to write: the theorem asks nothing of what is lent
pub no_ruler_lent : (f : Form) (old old' : List ℕ) → Rulers f (negsuc 4) (negsuc 2) draft_limit 0 old old'
unfolding step_at first_of chosen no_step_for
no_ruler_lent f old old' = demand_three.rulers f (negsuc 4) (negsuc 2) draft_limit 0 old old' (λ e. absurd (true≢false (sym e)))

pub no_marks_lent : (old old' : List ℤ) → Marks (negsuc 4) (negsuc 2) 0 old old'
unfolding step_at first_of chosen no_step_for
no_marks_lent old old' = demand_three.whole_marks (negsuc 4) (negsuc 2) 0 old old' (λ e. absurd (true≢false (sym e)))

-- ---- wrong: a search and its mirror, up and down not exchanged. Up from 1 there is no entry of the list 0; up from −1 there is.
abbrev SearchesKept : Type 0
SearchesKept = (l : List ℤ) (t : ℤ) (method : RoundingMethod) → whole_search (map neg_ℤ l) (neg_ℤ t) method ≡ whole_search l t method

pub searches_not_kept : SearchesKept → ⊥
unfolding whole_search searchable
searches_not_kept h = not_none (sym (h (pos 0 ∷ []) (pos 1) Ceil))

-- ---- wrong of readings by the way an axis runs: refusals that stay, 10 on both sides; equal ends, 0..0, on which both sides count upward; limits that
-- meet, where the pixel above them has no value and the one below them has
abbrev RefusalsKept : Type 0
RefusalsKept = (a b x : ℤ) (limit : Limit) → (a ≡ b → ⊥) → (limit.0 ≡ limit.1 → ⊥) → whole_directed (neg_ℤ a) (neg_ℤ b) (neg_ℤ x) (film.mirrored limit) ≡ film.negated (whole_directed a b x limit)

pub refusals_not_kept : RefusalsKept → ⊥
unfolding whole_directed directed_value no_index index_by floor_div
refusals_not_kept h =
    let e = h (pos 500_000_000) (pos 1_000_000_000) (pos 4) (limit_of (pos 0) (pos 1)) (λ e. let z : ◌≡◌ {A = ℕ} 500_000_000 1_000_000_000 = cc in omega (arith, z)) (λ e. let z : ◌≡◌ {A = ℕ} 0 1 = cc in omega (arith, z)) in
    let z : ◌≡◌ {A = ℕ} 19 10 = cc in omega (arith, z)

abbrev DirectedBy : (ℤ → ℤ → Type 0) → (Limit → Type 0) → Type 0
DirectedBy ends limits =
    (a b x : ℤ) (limit : Limit) → ends a b → limits limit → whole_directed (neg_ℤ a) (neg_ℤ b) (neg_ℤ x) (film.mirrored limit) ≡ negated_reading (whole_directed a b x limit)

pub ends_not_alike : DirectedBy (λ a b. Unit {0}) (λ l. l.0 ≡ l.1 → ⊥) → ⊥
unfolding whole_directed directed_value no_index index_by floor_div
ends_not_alike h =
    let e = h (pos 0) (pos 0) (pos 1) (limit_of (pos 0) (pos 1)) tt (λ e. let z : ◌≡◌ {A = ℕ} 0 1 = cc in omega (arith, z)) in
    let z : ◌≡◌ {A = ℕ} 0 1 = cc in omega (arith, z)

pub limits_not_alike : DirectedBy (λ a b. a ≡ b → ⊥) (λ l. Unit {0}) → ⊥
unfolding whole_directed directed_value no_index index_by floor_div
limits_not_alike h = not_none (sym (h (pos 0) (pos 1) (pos 1) (limit_of (pos 0) (pos 0)) (λ e. let z : ◌≡◌ {A = ℕ} 0 1 = cc in omega (arith, z)) tt))

-- ---- wrong: no mark more. −3..−1 with m 1 has the step 10 and the mark 0, and 1..3 has none.
abbrev AlwaysMirrored : Type 0
AlwaysMirrored =
    (a b : ℤ) (limit : Limit) (m : ℕ) (old old' : List ℕ) → verdict (ruling one a b limit m old old').0 ≡ accepted → verdict (ruling_back one a b limit m old old').0 ≡ accepted
    → ruler.MirrorOf (wrote (λ x. x.0) (ruling_back one a b limit m old old')) (wrote (λ x. x.0) (ruling one a b limit m old old'))

pub not_always_mirrored : AlwaysMirrored → ⊥
unfolding write_by bytes_by laid axis_body mark_body digits step_at first_of chosen no_step_for step_for marks_for place_of whole_place spot eq of_int
not_always_mirrored h =
    let film = limit_of (pos 0) (pos 0) in
    let back = h (negsuc 2) (negsuc 0) film 1 (zeros 45) (zeros 25) refl refl in
    let n : ◌≡◌ {A = ℕ} 1 0 = ((demand_three.rulers one (negsuc 2) (negsuc 0) film 1 (zeros 45) (zeros 25) (λ e. refl)).match_exactly refl).0 back in
    let z : ⊥ = omega (arith, n) in z

-- ---- wrong, 02 (a): one mark more of kind 3, where the step does not divide the needle nearest zero. −3..−1 with m 1 has no mark, and 1..3 has none.
abbrev InsideMore : Type 0
InsideMore =
    (a b : ℤ) (limit : Limit) (m : ℕ) (old old' : List ℕ) → verdict (ruling three a b limit m old old').0 ≡ accepted → (Divides (step_of a b m) (nearest_zero a b) → ⊥) → high a b <ℤ pos 0
    → ruler.OneMore a b limit m (high a b) (wrote (λ x. x.0) (ruling three a b limit m old old')) (wrote (λ x. x.0) (ruling_back three a b limit m old old'))

pub not_inside_more : InsideMore → ⊥
unfolding write_by bytes_by laid axis_body step_at first_of chosen no_step_for step_for inside_for
not_inside_more h =
    let o = h (negsuc 2) (negsuc 0) (limit_of (pos 0) (pos 0)) 1 (zeros 25) (zeros 25) refl (λ e. let z : ⊥ = omega (arith, e) in z) (yes_lt refl) in
    let n : ◌≡◌ {A = ℕ} 25 45 = one_record_longer o in
    let z : ⊥ = omega (arith, n) in z

-- ---- wrong: one mark more on every axis below zero, also where the step divides its needle nearest zero. −1..−1 with m 0 has the mark −1, and 1..1 has 1.
abbrev AlwaysMore : Type 0
AlwaysMore =
    (a b : ℤ) (m : ℕ) (old old' : List ℤ) → verdict (marking a b m old old').0 ≡ accepted → verdict (marking_back a b m old old').0 ≡ accepted → high a b <ℤ pos 0
    → OneMore (step_of a b m) (high a b) (wrote (λ x. x.1) (marking a b m old old')) (wrote (λ x. x.1) (marking_back a b m old old'))

pub not_always_more : AlwaysMore → ⊥
unfolding whole_key_points step_at first_of chosen no_step_for step_for marks_for
not_always_more h =
    let o = h (negsuc 0) (negsuc 0) 0 (pos 0 ∷ []) (pos 0 ∷ []) refl refl (yes_lt refl) in
    let n : ◌≡◌ {A = ℕ} 1 2 = ap length o.others_match in
    let z : ⊥ = omega (arith, n) in z

-- ---- wrong: a stepped axis whose step keeps its sign. 0..1 by 1 is an empty list, and 0..−1 by 1 leads away.
abbrev StepKept : Type 0
StepKept = (a b d : ℤ) (old old' : List ℤ) → (step_values whole (neg_ℤ a) (neg_ℤ b) d old').0 ≡ (step_values whole a b d old).0

pub step_not_kept : StepKept → ⊥
unfolding step_values stepped against entries
step_not_kept h = not-both (sym (h (pos 0) (pos 1) (pos 1) [] []))

-- ---- wrong: whatever is lent, where there is something to write. −3..−1 with m 1 has a mark, for which there is no room, and 1..3 needs none.
abbrev AnyMemory : Type 0
AnyMemory = (a b : ℤ) (m : ℕ) (old old' : List ℤ) → step_only (marking_back a b m old old').0 ≡ step_only (marking a b m old old').0

pub not_any_memory : AnyMemory → ⊥
unfolding whole_key_points step_at first_of chosen no_step_for step_for marks_for
not_any_memory h = not-both (h (negsuc 2) (negsuc 0) 1 [] [])

-- ---- wrong: a stepped list whose entries keep their signs, 0..2 by 1; and zeros of either sign told apart, −1..1 by 1, where 1 + −1 and −1 + 1 are both 0
abbrev EntriesKept : Type 0
EntriesKept = (a b d : ℤ) → stepped whole (neg_ℤ a) (neg_ℤ b) (neg_ℤ d) ≡ stepped whole a b d

abbrev is_pos : ℤ → Bool
is_pos (pos n) = true
is_pos (negsuc n) = false

pub entries_not_kept : EntriesKept → ⊥
unfolding stepped entries
entries_not_kept h = true≢false (sym (ap (λ (l : List ℤ). is_pos (get_or l 1 (pos 0))) (h (pos 0) (pos 2) (pos 1))))

abbrev ZerosApart : Type 0
ZerosApart = (a b d : Float) → stepped real (neg a) (neg b) (neg d) ≡ map neg (stepped real a b d)

abbrev has_sign : Float → Bool
has_sign nan = false
has_sign (inf s) = s
has_sign (fin s n e) = s

pub zeros_not_apart : ZerosApart → ⊥
unfolding stepped entries neg add lt
zeros_not_apart h =
    true≢false (sym (ap (λ (l : List Float). has_sign (get_or l 1 (fin false 0 (pos 0)))) (h (fin true 1 (pos 0)) (fin false 1 (pos 0)) (fin false 1 (pos 0)))))

-- ---- wrong, 02 (c): a mirrored ruler with the same twist. 0..0 on 0..0 is its own mirror, but for the twist.
abbrev SameTwist : Type 0
SameTwist =
    (f : Form) (a b : ℤ) (limit : Limit) (m : ℕ) (old old' : List ℕ)
    → verdict (write_by f a b limit m old).0 ≡ accepted → verdict (write_by f (neg_ℤ a) (neg_ℤ b) (film.mirrored limit) m old').0 ≡ accepted → ruler.Matches f.choice a b m
    → ruler.MirrorOf (wrote (λ x. x.0) (write_by f (neg_ℤ a) (neg_ℤ b) (film.mirrored limit) m old')) (wrote (λ x. x.0) (write_by f a b limit m old))

abbrev six : Form
six = record { choice = Inside; twist = S }

-- a record that begins with 6 and has 0 behind its 25 bytes is an S ruler's, and turned it has 1 there
not_both_twists : (c : Choice) (t : Twist) (rest rest' : List ℕ) → 6 ≡ kind_for c t → 0 ≡ get_or (twist_bytes t ++ rest) 0 2 → 0 ≡ get_or (twist_bytes (ruler.other_twist t) ++ rest') 0 2 → ⊥
not_both_twists Cut Plain rest rest' k e g = let z : ⊥ = omega (arith, k) in z
not_both_twists Cut S rest rest' k e g = let z : ⊥ = omega (arith, k) in z
not_both_twists Cut Z rest rest' k e g = let z : ⊥ = omega (arith, k) in z
not_both_twists Inside Plain rest rest' k e g = let z : ⊥ = omega (arith, k) in z
not_both_twists Inside S rest rest' k e g = let z : ⊥ = omega (arith, g) in z
not_both_twists Inside Z rest rest' k e g = let z : ⊥ = omega (arith, e) in z

abbrev point : List ℕ
point = bytes_by six (pos 0) (pos 0) (limit_of (pos 0) (pos 0)) 0

not_own_mirror : (rs : List Record) → point ≡ joined rs → point ≡ joined (ruler.turned rs) → ⊥
unfolding bytes_by laid axis_body mark_body digits step_at first_of chosen step_for inside_for place_of whole_place spot eq of_int
not_own_mirror [] e g = let z : ⊥ = omega (arith, ap length e) in z
not_own_mirror (mark v x ∷ rs) e g =
    let k : ◌≡◌ {A = ℕ} 6 2 = ap (λ (l : List ℕ). get_or l 0 0) e in
    let z : ⊥ = omega (arith, k) in z
not_own_mirror (axis f a b limit m s ∷ rs) e g =
    not_both_twists f.choice f.twist (joined rs) (joined (reverse (map ruler.negated rs))) (ap (λ (l : List ℕ). get_or l 0 0) e) (ap (λ (l : List ℕ). get_or l 25 2) e) (ap (λ (l : List ℕ). get_or l 25 2) g)

pub not_same_twist : SameTwist → ⊥
unfolding write_by bytes_by laid axis_body mark_body digits step_at first_of chosen no_step_for step_for inside_for place_of whole_place spot eq of_int
not_same_twist h = let (rs, e, g) = h six (pos 0) (pos 0) (limit_of (pos 0) (pos 0)) 0 (zeros 46) (zeros 46) refl refl tt in not_own_mirror rs e g

-- ---- wrong, 02 (i): a mark's place moves with the limits on every axis. On 0..0 it is half of the film's length, in which p has no part: 0 on 0..0, and on
-- 1..1 too.
abbrev EveryPlaceMoves : Type 0
EveryPlaceMoves = (a b v x c : ℤ) (limit : Limit) → whole_place a b v limit ≡ given x → whole_place a b v (shifted_limit c limit) ≡ given (x +ℤ c)

pub not_every_place_moves : EveryPlaceMoves → ⊥
unfolding whole_place spot eq of_int
not_every_place_moves h =
    let e : ◌≡◌ {A = Answer ℤ} (given (pos 0)) (given (pos 1)) = h (pos 0) (pos 0) (pos 0) (pos 0) (pos 1) (limit_of (pos 0) (pos 0)) refl in
    let z : ◌≡◌ {A = ℕ} 0 1 = cc in omega (arith, z)

-- ---- wrong, 02 (i): limits that are not admitted after the move. 0..1000000 moved by 1 is refused with 2, whatever is lent.
abbrev AnyMove : Type 0
AnyMove = (f : Form) (a b c : ℤ) (limit : Limit) (m : ℕ) → limit_admitted limit ≡ true → ruler_plan_by f a b (shifted_limit c limit) m ≡ ruler_plan_by f a b limit m

pub not_any_move : AnyMove → ⊥
unfolding ruler_plan_by step_at first_of chosen no_step_for step_for
not_any_move h = not-both (sym (h one (pos 0) (pos 0) (pos 1) (limit_of (pos 0) (pos 1_000_000)) 0 refl))
