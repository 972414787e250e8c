pub mod Digits
pub mod Texts
pub mod Reader
pub mod LastDigits
