-- The crate's specification. Assumes nothing.
pub mod Powers
pub mod Nearest
pub mod Decade
pub mod Steps
