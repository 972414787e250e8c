-- `rounding::round` what the search leaves.
use Rattle.std.proofs.Common.{◌≡◌, true, sym, ap, ◌∙◌, ⊎_elim, true≢false}
use lib.Ieee.{Float, binary64, lt, neg, of_bits}
use Rattle.rounding.specs.Integral.{halves, round_of}
use Rattle.rounding.proofs.Signs.{zero_f, neg-above, integral-turned}
use Rattle.rounding.proofs.round.Lts as lts
use Rattle.rounding.proofs.round.Reads as reads
use Rattle.rounding.proofs.round.Tie as tie
use Rattle.rounding.proofs.round.Goals as goal

abbrev at-Joined1 : Type 0
at-Joined1 = lts.Joined1 tie.the-claims reads.Pre reads.Post

pub nearest-r-requires : goal.nearest-r-requires
unfolding of_bits
nearest-r-requires c =
    let x = c.args.x in
    ⊎_elim
    (λ w. ap (λ (y : Float). lt y zero_f) w.size-is ∙ neg-above x w.if-x.true)
    (λ w. ap (λ (y : Float). lt y zero_f) w.size-is ∙ w.if-x.false)
    c.if-x.branch-raw

-- the size, where x is below zero and where it is not
size-neg : (c : at-Joined1) → lt c.args.x zero_f ≡ true → c.if-x.size ≡ neg c.args.x
unfolding of_bits
size-neg c h = ⊎_elim (λ w. w.size-is) (λ w. absurd (true≢false (sym h ∙ w.if-x.false))) c.if-x.branch-raw

pub returns-then-x-2 : goal.returns-then-x-2
unfolding of_bits
returns-then-x-2 c =
    let k = c.before in
    ap neg (k.nearest-r.ensures ∙ ap round_of (size-neg k.before c.if-x-2.true)) ∙ integral-turned binary64 halves k.args.x
