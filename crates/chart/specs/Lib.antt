pub mod Chart
pub mod Histories
pub mod Steps
pub mod Worked
