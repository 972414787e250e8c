-- `week::survey` what the search leaves.
use Rattle.std.proofs.Common.{◌≡◌, ◌+◌, ◌-◌, ◌*◌, ◌∙◌, ℕ, [], ap, sym, refl, drop, get_or, length, eqb-true, arith}
use Rattle.std.proofs.lemmas.Bool.{eqb-false}
use Rattle.ranged1d.specs.Answer.{Answer}
use Rattle.ranged1d.specs.Told.{tell_option}
use Rattle.week.specs.Steps.{walked, or_before}
use Rattle.week.proofs.Walk.{pair-on, pair-stop, walk_end, placed, found-or, survey-many, survey-alone, survey-walk}
use Rattle.week.proofs.survey.Goals as goal
use Rattle.week.proofs.survey.Goals.{then-pairs-gt32-via-then-pairs-gt32, then-pairs-gt32-via-else-pairs-gt32+then-not-is_empty}

pub returns-then-pairs-gt32 : goal.returns-then-pairs-gt32
returns-then-pairs-gt32 g c = λ f h. elim c.then-pairs-gt32.branch [
  | then-pairs-gt32-via-then-pairs-gt32 w ↦ survey-many f c.args.windows.now (omega (arith, c.as_chunks.ensures.front_len))
  | then-pairs-gt32-via-else-pairs-gt32+then-not-is_empty w ↦
      let some : length c.as_chunks.result.1.now ≡ 0 → ⊥ = eqb-false _ _ (sym w.is_empty.ensures ∙ w.if-not-is_empty.true) in
      survey-alone f c.args.windows.now (omega (arith, c.as_chunks.ensures.front_len)) (omega (arith, c.as_chunks.ensures.back_len))
]

pub loop-first-init : goal.loop-first-init
loop-first-init g c = (omega arith, omega arith, λ f h. refl)

pub returns-then-not-fits : goal.returns-then-not-fits
returns-then-not-fits g c = λ f h.
    let s = c.args.windows.now in
    let i = c.loop-first.first-index in
    sym (c.loop-first.invariant.2 f h ∙ pair-stop f c.loop-first.next c.loop-first.seen (tell_option c.loop-first.found) s c.as_chunks.result.0.now i c.as_chunks.ensures.front (omega (arith, c.as_chunks.ensures.front_len)) (sym c.fits.ensures ∙ c.if-not-fits.true))
    ∙ survey-walk f s (omega (arith, c.as_chunks.ensures.front_len))

pub carry-requires : goal.carry-requires
carry-requires g c =
    let pair = get_or c.as_chunks.result.0.now c.loop-first.first-index [] in
    let p = placed c.loop-first.next (get_or pair 0 0) (get_or pair 1 0) (sym c.fits.ensures ∙ c.if-not-fits.false) in
    c.requires _ (record { some = p.1; last = p.2; few = omega arith })

pub overflow_add-seen : goal.overflow_add-seen
overflow_add-seen g c =
    let pair = get_or c.as_chunks.result.0.now c.loop-first.first-index [] in
    let p = placed c.loop-first.next (get_or pair 0 0) (get_or pair 1 0) (sym c.fits.ensures ∙ c.if-not-fits.false) in
    omega arith

pub loop-first-preserved : goal.loop-first-preserved
loop-first-preserved g c =
    let i = c.loop-first.first-index in
    let s = c.args.windows.now in
    let pair = get_or c.as_chunks.result.0.now i [] in
    let first = get_or pair 0 0 in
    let end = get_or pair 1 0 in
    let next = c.loop-first.next in
    let seen = c.loop-first.seen in
    let fit = sym c.fits.ensures ∙ c.if-not-fits.false in
    let p = placed next first end fit in (
      omega arith,
      omega arith,
      λ f h.
          let found : tell_option c.or-found.result ≡ or_before (f (record { first = first; end = end; seen = seen })) (tell_option c.loop-first.found) =
          ap tell_option c.or-found.ensures
          ∙ found-or c.carry.result c.loop-first.found
          ∙ ap (λ (a : Answer ℕ). or_before a (tell_option c.loop-first.found)) (h _ c.carry.result (record { some = p.1; last = p.2; few = omega arith }) c.carry.ensures) in
          c.loop-first.invariant.2 f h
          ∙ pair-on f next seen (tell_option c.loop-first.found) s c.as_chunks.result.0.now i c.as_chunks.ensures.front (omega (arith, c.as_chunks.ensures.front_len)) fit
          ∙ ap (λ (a : Answer ℕ). walked f (end + 1) (seen + (end - first)) a (drop ((i + 1) * 2) s)) (sym found),
    )

pub returns : goal.returns
returns g c = λ f h.
    let s = c.args.windows.now in
    let i = c.loop-first.first-index in
    let even : length c.as_chunks.result.1.now ≡ 0 = eqb-true _ _ (sym c.is_empty.ensures ∙ c.if-not-is_empty.false) in
    sym (c.loop-first.invariant.2 f h ∙ walk_end f c.loop-first.next c.loop-first.seen (tell_option c.loop-first.found) s (i * 2) (omega (arith, c.as_chunks.ensures.front_len, c.as_chunks.ensures.back_len)))
    ∙ survey-walk f s (omega (arith, c.as_chunks.ensures.front_len))
