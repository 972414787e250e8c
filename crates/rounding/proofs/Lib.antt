-- What belongs to no one function. Assumes nothing.
pub mod Quotients
pub mod Compare
pub mod Signs
pub mod Errors
pub mod Values
pub mod Sums
pub mod Small
pub mod Steps
pub mod Sizes
pub mod Bounds
pub mod Value
pub mod Rounded
pub mod Ceilings
pub mod Order
pub mod Units
pub mod Worked
