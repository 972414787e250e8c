pub mod Film
pub mod Steps
pub mod Films
pub mod Mirror
pub mod Worked
