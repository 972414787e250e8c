-- `rounding::nearest` what the search leaves.
use Rattle.std.proofs.Common.{◌≡◌, Bool, true, false, pos, sym, ap, ◌∙◌, ⊎_elim}
use lib.Ieee.{binary64, add, lt, of_bits, of_int}
use Rattle.rounding.specs.Integral.{halves, round_of}
use Rattle.rounding.proofs.Steps.{Small, below_power, above_big}
use Rattle.rounding.proofs.Sizes.{half, step, round_step, stays_floor, stays_large, least_high}
use Rattle.rounding.proofs.nearest.Lts as lts
use Rattle.rounding.proofs.nearest.Reads as reads
use Rattle.rounding.proofs.nearest.Tie as tie
use Rattle.rounding.proofs.nearest.Goals as goal

abbrev at-Then1 : Type 0
at-Then1 = lts.Then1 tie.the-claims reads.Pre reads.Post tie.handed_clauses

abbrev at-Then2 : Type 0
at-Then2 = lts.Then2 tie.the-claims reads.Pre reads.Post tie.handed_clauses

pub floor_small-t-requires : goal.floor_small-t-requires
unfolding of_bits
floor_small-t-requires c = record { fact_1 = above_big c.args.x c.if-x.true c.requires; fact_2 = c.if-x.true }

held : (c : at-Then1) → Small c.args.x
unfolding of_bits
held c = below_power 52 c.args.x (above_big c.args.x c.if-x.true c.requires) c.if-x.true

-- whichever step the test against t + 0.5 picks
stepped : (c : at-Then2) (t : Bool)
    → lt c.args.x (add binary64 c.floor_small-t.result half) ≡ t
    → add binary64 c.floor_small-t.result (of_int binary64 (pos (step t))) ≡ round_of c.args.x
stepped c t h =
    let k = c.before in
    let s = k.before.before in
    let e = k.floor_small-t.ensures in
    rw e (sym (round_step s.args.x t (held k.before) s.requires (rw e at c.if-x-t.true) (rw e at h)))

pub returns-then-x-t : goal.returns-then-x-t
unfolding of_bits of_int
returns-then-x-t c =
    let t = c.floor_small-t.result in
    ⊎_elim
    (λ w. ap (add binary64 t) w.step-is ∙ stepped c.before true w.if-x-t-2.true)
    (λ w. ap (add binary64 t) w.step-is ∙ stepped c.before false w.if-x-t-2.false)
    c.if-x-t-2.branch-raw

pub returns-else-x-t : goal.returns-else-x-t
returns-else-x-t c =
    let k = c.before in
    sym (stays_floor halves k.args.x (held k.before) (rw k.floor_small-t.ensures at c.if-x-t.false))

pub returns-else-x : goal.returns-else-x
unfolding of_bits
returns-else-x c = let s = c.before in sym (stays_large halves s.args.x s.well_formed.0.1 (least_high 52 s.args.x c.if-x.false))
