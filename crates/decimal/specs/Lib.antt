pub mod Print
pub mod Read
