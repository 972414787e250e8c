pub mod Floor
pub mod Theorems
pub mod Within
