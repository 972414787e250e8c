-- `segmented::shares::Shares::share_up` what the search leaves.
use Rattle.std.proofs.Common.{ℕ, ◌+◌, ◌/◌, pos, ap, ◌∙◌, arith}
use Rattle.segmented.proofs.Halves.{cut_allowed, cut_small, share-cut}
use Rattle.segmented.proofs.shares.Shares.share_up.Goals as goal

pub truncating_f32_to_u64-halves-requires : goal.truncating_f32_to_u64-halves-requires
truncating_f32_to_u64-halves-requires c =
    let s = c.args.self in
    let both = cut_allowed s.n s.some s.most (c.args.l + c.args.l) (omega (arith, c.requires)) in
    record { lower_bound = both.0; upper_bound = both.1 }

pub overflow_add-result : goal.overflow_add-result
overflow_add-result c =
    let s = c.args.self in
    omega (arith, c.truncating_f32_to_u64-halves.ensures, cut_small s.n s.some s.most (c.args.l + c.args.l) (omega (arith, c.requires)))

pub overflow_cast-result : goal.overflow_cast-result
overflow_cast-result c =
    let s = c.args.self in
    omega (arith, c.truncating_f32_to_u64-halves.ensures, cut_small s.n s.some s.most (c.args.l + c.args.l) (omega (arith, c.requires)))

pub returns : goal.returns
returns c =
    let s = c.args.self in
    ap (λ (z : ℕ). pos ((z + 1) / 2)) c.truncating_f32_to_u64-halves.ensures ∙ share-cut s.n s.some s.most c.args.l c.requires
