pub mod Lowest
pub mod Laws
