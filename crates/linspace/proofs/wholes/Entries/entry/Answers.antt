use Rattle.linspace.proofs.WholeRules.{entry_fits}
use Rattle.linspace.proofs.wholes.Entries.entry.Goals as goal

pub overflow_mul-result : goal.overflow_mul-result
overflow_mul-result c = (entry_fits c.args.self.known c.args.k c.requires).product

pub overflow_add-result : goal.overflow_add-result
overflow_add-result c = (entry_fits c.args.self.known c.args.k c.requires).sum

pub returns : goal.returns
returns c = (entry_fits c.args.self.known c.args.k c.requires).is
