use Rattle.std.proofs.Common.{ℕ, ◌≡◌, ◌<◌, ◌≤◌, refl, ap, subst, ◌∙◌, length, rules}
use lib.Ieee.{nan, lt}
use Rattle.search.specs.Settled.{settled_nan}
use Rattle.linspace.specs.List.{real, stepped, toward}
use Rattle.linspace.specs.RealSteps.{plus_step}
use Rattle.linspace.proofs.Axis.{walked-count}
use Rattle.linspace.proofs.Walks.{walk_starts}
use Rattle.linspace.proofs.Indices.{index_long, index_nan}
use Rattle.linspace.proofs.reals.Walk.index_of_nan.Goals as goal

pub returns-then-n-gt65536 : goal.returns-then-n-gt65536
returns-then-n-gt65536 c =
    let s = c.args.self.s in
    let count : c.count_on-n.result ≡ length (stepped real s.a s.b s.d) = c.count_on-n.ensures ∙ walked-count s.a s.b s.d 0 s.a c.args.self.some (walk_starts (toward real (lt s.a s.b) s.b) (plus_step s.d) 65537 s.a) in
    index_long s.a s.b s.d nan c.args.method c.args.self.onward (subst (λ (n : ℕ). 65536 < n) count c.if-n-gt65536.true)

pub returns : goal.returns
returns c =
    let s = c.args.self.s in
    let count : c.count_on-n.result ≡ length (stepped real s.a s.b s.d) = c.count_on-n.ensures ∙ walked-count s.a s.b s.d 0 s.a c.args.self.some (walk_starts (toward real (lt s.a s.b) s.b) (plus_step s.d) 65537 s.a) in
    c.settle_nan.ensures
    ∙ ap (settled_nan c.args.method) count
    ∙ index_nan s.a s.b s.d (search rules) c.args.self.onward c.args.self.some (subst (λ (n : ℕ). n ≤ 65536) count c.if-n-gt65536.false) nan c.args.method refl
