-- The crate's specification. Assumes nothing.
pub mod Place
pub mod Reading
pub mod Mirror
pub mod Exact
pub mod Stray
pub mod Shifting
