-- `rounding::floor_small` what the search leaves. The literals are bit patterns in MIR, and are the values of `Steps` once `of_bits` and `neg` are unfolded.
use Rattle.std.proofs.Common.{true, false, sym, subst, ⊎_elim}
use lib.Ieee.{Float, binary64, add, sub, of_bits, neg}
use Rattle.rounding.proofs.Steps.{Anchored, below_power, anchored, floor-less, floor-same}
use Rattle.rounding.proofs.floor_small.Lts as lts
use Rattle.rounding.proofs.floor_small.Reads as reads
use Rattle.rounding.proofs.floor_small.Tie as tie
use Rattle.rounding.proofs.floor_small.Goals as goal

abbrev at-Joined1 : Type 0
at-Joined1 = lts.Joined1 reads.Pre reads.Post tie.handed_clauses

-- by whichever sign c was chosen, what is left is a whole number next to x
next : (c : at-Joined1) → Anchored c.args.x (sub binary64 (add binary64 c.args.x c.if-x.c) c.if-x.c)
unfolding of_bits neg
next c =
    let x = c.args.x in
    let b = below_power 52 x c.requires.fact_1 c.requires.fact_2 in
    ⊎_elim
    (λ w. subst (λ (z : Float). Anchored x (sub binary64 (add binary64 x z) z)) (sym w.c-is) (anchored true x b w.if-x.true))
    (λ w. subst (λ (z : Float). Anchored x (sub binary64 (add binary64 x z) z)) (sym w.c-is) (anchored false x b w.if-x.false))
    c.if-x.branch-raw

pub returns-then-x-t : goal.returns-then-x-t
unfolding of_bits
returns-then-x-t c = floor-less c.args.x _ (next c.before) c.if-x-t.true

pub returns : goal.returns
returns c = floor-same c.args.x _ (next c.before) c.if-x-t.false
