-- `ruler::Drawing::is_head` what the search leaves.
use Rattle.std.proofs.Common.{take_at, to_z-of_z}
use native.Mathlib.Nat.{sub-zero}
use Rattle.decimal.proofs.Reader.{same-tested}
use Rattle.ruler.specs.Bytes.{head_long, laid}
use Rattle.ruler.specs.Steps.{form_of, axis_of}
use Rattle.ruler.proofs.Records.{axis_long}
use Rattle.ruler.proofs.Drawing.is_head.Goals as goal

pub returns : goal.returns
returns c =
    let own = laid (axis_of c.args.self c.args.step) in
    same-tested c.eq.result c.args.l.now own _ c.eq.ensures (rw (sub-zero c.head.result, c.head.ensures.0, c.put_head.ensures, to_z-of_z c.ranges.step) (take_at own _ (head_long (form_of c.args.self)) (axis_long _ _ _ _ _ _)))
