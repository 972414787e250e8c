pub mod Search
pub mod Orders
pub mod Kinds
pub mod Lists
pub mod Settled
pub mod Steps
pub mod Mirror
