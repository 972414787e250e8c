-- The crate's specification. Assumes nothing.
pub mod Scale
pub mod Marks
pub mod Worked
