use Rattle.std.proofs.Common.{◌≡◌, ◌+◌, ◌*◌, ◌^◌, ◌≤◌, drop}
use Rattle.decimal.specs.Read.{value_of}
use Rattle.decimal.proofs.value.Given as goal

-- the value so far, followed by what is left
abbrev pub invariant-loop-c : goal.invariant-loop-c
invariant-loop-c l = (value_of 0 l.s ≡ value_of l.n (drop l.c-index l.s)) × (l.n + 23 ≤ 23 * 10 ^ l.c-index)
