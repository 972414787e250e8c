-- The crate's specification; `Steps` is no part of the rule. Assumes nothing.
pub mod Shorten
pub mod Text
pub mod Scientific
pub mod Calls
pub mod Steps
pub mod Worked
