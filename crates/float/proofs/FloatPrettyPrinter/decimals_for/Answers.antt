use Rattle.std.proofs.Common.{sym}
use Rattle.float.proofs.Cases.{decimals_none, decimals_h, decimals_e, decimals-some}
use Rattle.float.proofs.FloatPrettyPrinter.decimals_for.Goals as goal
use Rattle.float.proofs.FloatPrettyPrinter.decimals_for.Goals.{then-self-gt10-via-then-self-gt10, then-self-gt10-via-else-self-gt10+then-self-gt20}

pub returns-then-not-has_label : goal.returns-then-not-has_label
returns-then-not-has_label c = sym (decimals_none c.args.n c.args.self.max_decimal c.args.self.min_decimal (sym c.if-not-has_label.ensures))

pub returns-then-self-gt10 : goal.returns-then-self-gt10
returns-then-self-gt10 c =
    elim c.then-self-gt10.branch [
      | then-self-gt10-via-then-self-gt10 w ↦ sym (decimals_h c.args.n c.args.self.max_decimal c.args.self.min_decimal (sym c.if-not-has_label.ensures) w.if-self-gt10.true)
      | then-self-gt10-via-else-self-gt10+then-self-gt20 w ↦ sym (decimals_e c.args.n c.args.self.max_decimal c.args.self.min_decimal (sym c.if-not-has_label.ensures) w.if-self-gt10.false w.if-self-gt20.true)
    ]

pub returns : goal.returns
returns c = sym (decimals-some c.args.n c.args.self.max_decimal c.args.self.min_decimal (sym c.if-not-has_label.ensures) c.if-self-gt10.false c.if-self-gt20.false)
