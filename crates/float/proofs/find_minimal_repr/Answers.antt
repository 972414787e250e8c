use Rattle.std.proofs.Common.{◌≡◌, ℕ, length, length-take, replicate, reverse, take, ap, sym, ◌∙◌, arith}
use Rattle.std.proofs.lemmas.List.{length-replicate}
use Rattle.std.proofs.lemmas.Grind.{common_steps}
use Rattle.std.specs.List.{fold}
use lib.IntN.{pos}
use lib.Ieee.{Float, binary64, of_int, div}
use Rattle.float.specs.Shorten.{shorten, one}
use Rattle.float.specs.Scientific.{zero_float}
use Rattle.float.proofs.Levels.{found, climb, back_fold}
use Rattle.float.proofs.find_minimal_repr.Goals as goal

pub returns : goal.returns
returns c =
    let d = c.descend-r in
    let l = take d.result.levels d.new.floors in
    let e : c.rfold-value.result ≡ fold climb d.result.value (reverse l) = grind (arith, common_steps) in
    let f = d.ensures.few in
    let m : length l ≡ d.result.levels = simp length-take (omega (arith, f)) in
    let k : length (take c.args.h.number (replicate 10 zero_float)) ≡ c.args.h.number = simp (length-take, length-replicate) (omega (arith, c.args.h.few)) in
    ap (λ (v : Float). found v d.result.levels) e ∙ ap (found (fold climb d.result.value (reverse l))) (sym m) ∙ sym (back_fold l d.result.value) ∙ d.ensures.found
    ∙ ap (λ (j : ℕ). shorten j c.args.n (div binary64 one (of_int binary64 (pos c.pow.result)))) k
    ∙ ap (λ (p : ℕ). shorten c.args.h.number c.args.n (div binary64 one (of_int binary64 (pos p)))) c.pow.ensures
