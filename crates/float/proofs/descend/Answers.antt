use Rattle.std.proofs.Common.{◌≡◌, ℕ, ◌+◌, ◌-◌, length, take, set, ap, sym, ◌∙◌, arith}
use Rattle.std.proofs.lemmas.List.{take-set}
use lib.Ieee.{Float, binary64, sub, mul}
use Rattle.float.specs.Shorten.{shorten, ten, plain}
use Rattle.float.specs.Steps.{back}
use Rattle.float.proofs.Levels.{down-none, down_out, down-reached, down-floor, down-ceil, down-more}
use Rattle.float.proofs.descend.Goals as goal

pub loop-levels-init : goal.loop-levels-init
loop-levels-init c = down-none (length c.args.floors.now) c.args.n c.args.eps

pub returns-then-t-clause-found : goal.returns-then-t-clause-found
returns-then-t-clause-found c =
    let o = c.loop-levels in
    rw take-set (down-reached o.floors (length c.args.floors.now) o.levels o.x o.t _ o.invariant c.loop-levels-test.true c.if-t.true)

pub returns-then-x-down-clause-found : goal.returns-then-x-down-clause-found
returns-then-x-down-clause-found c =
    let o = c.loop-levels in
    let f = c.floor-down.ensures in
    rw (take-set, f)
    (down-floor o.floors (length c.args.floors.now) o.levels o.x o.t _ o.invariant c.loop-levels-test.true c.if-t.false (rw f at c.if-x-down.true))

pub returns-then-up-x-clause-found : goal.returns-then-up-x-clause-found
returns-then-up-x-clause-found c =
    let o = c.loop-levels in
    let g = c.ceil-up.ensures in
    rw (take-set, g)
    (down-ceil o.floors (length c.args.floors.now) o.levels o.x o.t _ o.invariant c.loop-levels-test.true c.if-t.false (rw c.floor-down.ensures at c.if-x-down.false) (rw g at c.if-up-x.true))

pub loop-levels-preserved : goal.loop-levels-preserved
loop-levels-preserved c =
    let o = c.loop-levels in
    let e = c.floor-down.ensures in
    let n = length c.args.floors.now in
    ap (λ (v : Float). back (take (o.levels + 1) (set o.floors o.levels v)) (shorten (n - (o.levels + 1)) (mul binary64 (sub binary64 o.x v) ten) (mul binary64 o.t ten))) e
    ∙ down-more o.floors n o.levels o.x o.t _ o.invariant c.loop-levels-test.true (omega arith) c.if-t.false (rw e at c.if-x-down.false) (rw c.ceil-up.ensures at c.if-up-x.false)

pub returns-clause-found : goal.returns-clause-found
returns-clause-found c =
    let o = c.loop-levels in
    let e : o.levels ≡ length o.floors = omega arith in
    ap (λ (k : ℕ). back (take k o.floors) (plain o.x)) (sym e) ∙ down_out o.floors (length c.args.floors.now) o.levels o.x o.t _ o.invariant c.loop-levels-test.false
