use Rattle.std.proofs.Common.{length, ◌∙◌}
use lib.Ieee.{nan}
use Rattle.linspace.specs.RealSteps.{plus_step}
use Rattle.linspace.proofs.Runs.{kept-front, rest_put}
use Rattle.linspace.proofs.lanes.Sums.put_kept.Goals as goal

pub returns-then-n-g : goal.returns-then-n-g
returns-then-n-g c = c.copy_from_slice.ensures.after ∙ kept-front nan c.args.self.are (length c.args.out.now) c.if-n-g.true

pub returns : goal.returns
returns c =
    let s = c.args.self in
    let next = plus_step s.s.d in
    rest_put next s.h s.s.a (length s.kept.now) _ (length c.args.out.now) c.copy_from_slice-2.new.self c.put_entries.new.out c.next.result c.split_at_mut-first.ensures.back_len
    (c.copy_from_slice-2.ensures.after ∙ s.are.are) c.next.ensures c.put_entries.ensures
