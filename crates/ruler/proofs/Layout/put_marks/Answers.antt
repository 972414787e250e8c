-- `ruler::Layout::put_marks` what the search leaves: the records of the first k marks, and then what was there.
use Rattle.std.proofs.Common.{◌*◌, ◌-◌, ◌++◌, length, take, drop, ℤ, ap, ◌∙◌, rules, to_z-of_z, w32, SFits}
use Rattle.numeric.specs.Calls.{element}
use Rattle.ruler.specs.Bytes.{laid}
use Rattle.ruler.specs.Steps.{mark_of}
use Rattle.ruler.proofs.Records.{run_put}
use Rattle.ruler.proofs.Layout.put_marks.Goals as goal

pub loop-k-preserved : goal.loop-k-preserved
loop-k-preserved c =
    let d = c.args.self.drawing.draft in
    let p = c.args.self.points in
    let out = c.loop-k.out in
    let v : SFits w32 c.mark.result = search rules in
    let put = c.put_mark.ensures ∙ ap (λ (v : ℤ). laid (mark_of d v) ++ drop 20 (take (length out - 20 * c.loop-k.k) (drop (20 * c.loop-k.k) out))) (to_z-of_z v ∙ c.mark.ensures) in
    run_put d.a d.b d.limit (element p.first p.step) c.loop-k.k c.args.out.now out c.put_mark.new.out c.loop-k.invariant put
