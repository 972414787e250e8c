-- `line::read_line` what the search leaves.
use Rattle.std.proofs.Common.{◌∙◌, refl}
use Rattle.line.specs.Line.{parse_line}
use Rattle.line.proofs.Words.{other-word, right-word}
use Rattle.line.proofs.read_line.Goals as goal

pub returns-in_err-word : goal.returns-in_err-word
unfolding parse_line
returns-in_err-word c = rw (c.from_residual.ensures, c.in_err-word.ensures) refl

pub returns-then-ne : goal.returns-then-ne
returns-then-ne c = other-word c.args.s.now c.in_ok-word.word.now c.as_slice.result.now c.in_ok-word.rest.now c.in_ok-word.ensures c.as_slice.ensures c.if-ne.ensures

pub returns : goal.returns
returns c = c.read_numbers.ensures ∙ right-word c.args.s.now c.in_ok-word.word.now c.as_slice.result.now c.in_ok-word.rest.now c.in_ok-word.ensures c.as_slice.ensures c.if-ne.ensures
