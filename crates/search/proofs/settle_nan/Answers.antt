use Rattle.search.proofs.Cases.{nan_nearest, nan_none, nan_exact, nan_refused}
use Rattle.search.proofs.settle_nan.Goals as goal

pub returns-in-Round : goal.returns-in-Round
returns-in-Round c = nan_nearest c.args.n c.if-n-eq0.true c.in-Round.is

pub returns-in_default : goal.returns-in_default
returns-in_default c = nan_none c.args.method c.args.n c.if-n-eq0.true c.in_default.not-Round

pub returns-in-Exact : goal.returns-in-Exact
returns-in-Exact c = nan_exact c.args.n c.in-Exact.is

pub returns-in_default-method : goal.returns-in_default-method
returns-in_default-method c = nan_refused c.args.method c.args.n c.if-n-eq0.false c.in_default-method.not-Exact
