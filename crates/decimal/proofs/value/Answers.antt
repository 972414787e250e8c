-- `decimal::value` what the search leaves.
use Rattle.std.proofs.Common.{ℕ, ◌≡◌, ◌+◌, ◌*◌, ◌∙◌, sym, ap, drop, length, arith}
use Rattle.decimal.specs.Read.{value_of}
use Rattle.decimal.proofs.Texts.{value-more, value-below, value_step, value-end}
use Rattle.decimal.proofs.value.Goals as goal

pub overflow_mul-n : goal.overflow_mul-n
overflow_mul-n c = let small = value-below c.loop-c.c-index c.loop-c.n (omega arith) c.loop-c.invariant.1 in omega arith

pub overflow_add-n : goal.overflow_add-n
overflow_add-n c = let small = value-below c.loop-c.c-index c.loop-c.n (omega arith) c.loop-c.invariant.1 in omega arith

pub loop-c-preserved : goal.loop-c-preserved
loop-c-preserved c =
    let i = c.loop-c.c-index in
    let n = c.loop-c.n in
    let byte = c.type_inv.s i in
    (c.loop-c.invariant.0 ∙ value_step c.args.s.now i n c.loop-c-test.true ∙ ap (λ (d : ℕ). value_of (n * 10 + d) (drop (i + 1) c.args.s.now)) (sym c.saturating_sub.ensures), value-more i n c.saturating_sub.result (omega arith) c.loop-c.invariant.1)

pub returns : goal.returns
returns c =
    let all : c.loop-c.c-index ≡ length c.args.s.now = omega arith in
    let small = value-below c.loop-c.c-index c.loop-c.n (omega arith) c.loop-c.invariant.1 in
    record {
      value = sym (c.loop-c.invariant.0 ∙ ap (λ (i : ℕ). value_of c.loop-c.n (drop i c.args.s.now)) all ∙ value-end c.args.s.now c.loop-c.n);
      small = omega arith;
    }
