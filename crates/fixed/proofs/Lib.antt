pub mod Fractions
pub mod Texts
pub mod Calls
pub mod Theorems
pub mod Worked
pub mod Written
