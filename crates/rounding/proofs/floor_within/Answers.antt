-- `rounding::floor_within` what the search leaves.
use Rattle.std.proofs.Common.{◌≡◌, ◌^◌, T, ℤ, sym, ap, ◌∙◌, arith, lit<, to_z-of_z, w64, SFits, to_z, of_z}
use lib.Ieee.{binary64, in_signed, to_signed, of_bits, neg}
use Rattle.ranged1d.proofs.Whole.{fits_abs}
use Rattle.rounding.specs.Integral.{floors}
use Rattle.rounding.specs.Within.{kept, whole_of}
use Rattle.rounding.proofs.Steps.{Small, below_power}
use Rattle.rounding.proofs.Sizes.{cast_back, Large, least_low, least_high, whole_small, within_small, within_nan, within_large}
use Rattle.rounding.proofs.floor_within.Lts as lts
use Rattle.rounding.proofs.floor_within.Reads as reads
use Rattle.rounding.proofs.floor_within.Tie as tie
use Rattle.rounding.proofs.floor_within.Goals as goal
use Rattle.rounding.proofs.floor_within.Goals.{else-x-via-then-x+else-x-2, else-x-via-else-x}

abbrev at-After-floor_small : Type 0
at-After-floor_small = lts.After-floor_small tie.the-claims reads.Pre reads.Post tie.handed_clauses

abbrev at-Joined1 : Type 0
at-Joined1 = lts.Joined1 tie.the-claims reads.Pre reads.Post tie.handed_clauses

abbrev at-Then2 : Type 0
at-Then2 = lts.Then2 tie.the-claims reads.Pre reads.Post tie.handed_clauses

pub floor_small-requires : goal.floor_small-requires
unfolding of_bits neg
floor_small-requires c = record { fact_1 = c.if-x.true; fact_2 = c.if-x-2.true }

held : (c : at-Then2) → Small c.args.x
unfolding of_bits neg
held c = below_power 52 c.args.x c.if-x.true c.if-x-2.true

-- the floor is a whole number that the cast brings back
cast-of : (c : at-After-floor_small) → T (in_signed binary64 63 c.floor_small.result) × (to_signed 63 c.floor_small.result ≡ whole_of floors c.args.x)
cast-of c =
    let x = c.args.x in
    rw c.floor_small.ensures (cast_back (whole_of floors x) (whole_small floors x (held c.before)))

whole-fits : (c : at-After-floor_small) → SFits w64 (whole_of floors c.args.x)
whole-fits c =
    let x = c.args.x in
    fits_abs w64 (whole_of floors x) (2 ^ 52) (whole_small floors x (held c.before)) (lit< tt)

pub float_to_int-floor_small : goal.float_to_int-floor_small
float_to_int-floor_small c = (cast-of c.before).0

pub returns-then-x-2 : goal.returns-then-x-2
returns-then-x-2 c =
    let k = c.before.before in
    let s = k.before.before.before in
    c.keep.ensures
    ∙ ap (λ (z : ℤ). kept s.args.bound (to_z w64 (of_z w64 z))) (cast-of k).1
    ∙ ap (kept s.args.bound) (to_z-of_z (whole-fits k))
    ∙ sym (within_small floors s.args.bound s.args.x (held k.before))

pub returns-then-is_nan : goal.returns-then-is_nan
returns-then-is_nan c = let s = c.before.before in sym (within_nan floors s.args.bound s.args.x (sym c.is_nan.ensures.value ∙ c.if-is_nan.true))

far : (c : at-Joined1) → Large c.args.x
unfolding of_bits neg
far c = let x = c.args.x in elim c.else-x.branch [ else-x-via-then-x+else-x-2 w ↦ least_high 52 x w.if-x-2.false | else-x-via-else-x w ↦ least_low 52 x w.if-x.false ]

pub returns : goal.returns
returns c = let s = c.before.before.before in sym (within_large floors s.args.bound s.args.x (omega arith) (sym c.is_nan.ensures.value ∙ c.if-is_nan.false) (far c.before.before))
