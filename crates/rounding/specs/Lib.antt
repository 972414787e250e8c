-- The crate's specification. Assumes nothing.
pub mod Integral
pub mod Within
pub mod Operations
