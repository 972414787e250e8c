-- 02 (i): film limits that are moved together. Assumes nothing.
use Rattle.std.specs.Prelude.{ℤ, ◌+ℤ◌}
use Rattle.ranged1d.specs.declared.Limit.{Limit}

-- both limits, c further on
abbrev pub shifted_limit : ℤ → Limit → Limit
shifted_limit c limit = record { 0 = limit.0 +ℤ c; 1 = limit.1 +ℤ c }
