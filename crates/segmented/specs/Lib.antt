-- The crate's specification. Assumes nothing.
pub mod Values
pub mod Segments
pub mod Axes
pub mod Steps
pub mod Regular
pub mod Mirror
