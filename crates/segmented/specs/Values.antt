-- 01 "Whole reading, segments, real labels": what a segmented axis has as its values. Assumes nothing.
use Rattle.std.specs.Prelude.{Bool, true}
use Rattle.segmented.specs.declared.SegmentValue.{SegmentValue}
pub use Rattle.segmented.specs.declared.SegmentValue.TheVariants.{Exact as exact, CenterOf as center_of, Last as last}

-- where an entry's segment begins, the middle of its segment, and what stands behind all of them
abbrev pub Segment : Type 0 → Type 0
Segment A = SegmentValue A

-- a test of the number that a value carries; `Last` carries none
abbrev pub carries : {A : Type 0} → (A → Bool) → Segment A → Bool
carries test (exact v) = test v
carries test (center_of v) = test v
carries test last = true
