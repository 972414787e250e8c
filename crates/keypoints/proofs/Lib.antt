-- Laws of the crate. Assumes nothing.
pub mod Rules
pub mod Signs
pub mod Lists
pub mod Calls
pub mod Worked
