-- `fixed::value` what the search leaves.
use Rattle.std.proofs.Common.{ℕ, ◌≡◌, ◌+◌, ◌*◌, ◌∙◌, sym, ap, drop, length, arith}
use Rattle.decimal.specs.Read.{value_of}
use Rattle.decimal.proofs.Texts.{value-more, value-below}
use Rattle.fixed.specs.Fixed.{unpointed}
use Rattle.fixed.proofs.Texts.{value-point, value-digit, value-end, value-stays}
use Rattle.fixed.proofs.value.Goals as goal
use Rattle.fixed.proofs.value.Goals.{then-c-ne46, else-c-ne46}

pub overflow_mul-n : goal.overflow_mul-n
overflow_mul-n c = let small = value-below c.loop-c.c-index c.loop-c.n (omega arith) c.loop-c.invariant.1 in omega arith

pub overflow_add-n : goal.overflow_add-n
overflow_add-n c = let small = value-below c.loop-c.c-index c.loop-c.n (omega arith) c.loop-c.invariant.1 in omega arith

pub loop-c-preserved : goal.loop-c-preserved
loop-c-preserved c =
    let s = c.args.s.now in
    let i = c.loop-c.c-index in
    let n = c.loop-c.n in
    let before = c.loop-c.invariant in
    let byte = c.type_inv.s i in
    elim c.if-c-ne46.branch [
      | then-c-ne46 w ↦ rw w.n-is (
        before.0 ∙ value-digit s i n c.loop-c-test.true w.if-c-ne46.true ∙ ap (λ (d : ℕ). value_of (n * 10 + d) (unpointed (drop (i + 1) s))) (sym w.saturating_sub.ensures),
        value-more i n w.saturating_sub.result (omega arith) before.1,
      )
      | else-c-ne46 w ↦ rw w.n-is (before.0 ∙ value-point s i n c.loop-c-test.true w.if-c-ne46.false, value-stays i n before.1)
    ]

pub returns : goal.returns
returns c =
    let all : c.loop-c.c-index ≡ length c.args.s.now = omega arith in
    let small = value-below c.loop-c.c-index c.loop-c.n (omega arith) c.loop-c.invariant.1 in
    record {
      value = sym (c.loop-c.invariant.0 ∙ ap (λ (i : ℕ). value_of c.loop-c.n (unpointed (drop i c.args.s.now))) all ∙ value-end c.args.s.now c.loop-c.n);
      small = omega arith;
    }
