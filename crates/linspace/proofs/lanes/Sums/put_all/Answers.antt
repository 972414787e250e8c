use Rattle.std.proofs.Common.{◌*◌, [], length, ◌∙◌}
use mathlib.Core.List.{append-nil}
use lib.Ieee.{nan}
use Rattle.linspace.specs.RealSteps.{plus_step, sums_by}
use Rattle.linspace.proofs.Runs.{rest_put, four_join, four-behind}
use Rattle.linspace.proofs.lanes.Sums.put_all.Goals as goal

pub returns : goal.returns
returns c =
    let s = c.args.self in
    let next = plus_step s.s.d in
    let by = c.args.by in
    let g = c.in-Some.g in
    let run = c.in-Some.ensures in
    let put = c.put_four-x in
    rest_put next by s.s.a (4 * g) _ (length c.args.out.now) put.new.out c.put_entries-2.new.out put.result c.split_at_mut-runs.ensures.back_len
    (put.ensures.0 ∙ four_join next by s.s.a nan s.are g run.2 run.1 [] ∙ append-nil (sums_by next by s.s.a (4 * g)))
    (four-behind next by s.s.a nan s.are g run.2 run.1 put.result put.ensures.1) c.put_entries-2.ensures
