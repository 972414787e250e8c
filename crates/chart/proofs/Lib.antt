pub mod Rules
pub mod Histories
pub mod Worked
