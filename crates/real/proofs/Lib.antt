-- What belongs to no one function: `Mirror` and `Placed` have what a later crate may use. Assumes nothing.
pub mod Cases
pub mod Wraps
pub mod Signs
pub mod Exact
pub mod Sizes
pub mod Readings
pub mod Mirror
pub mod Placed
pub mod Calls
pub mod Nan
pub mod Error
pub mod Relied
pub mod Stray
pub mod Shifting
pub mod Worked
