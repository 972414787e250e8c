pub mod List
pub mod Calls
pub mod Mirror
pub mod Worked
pub mod WholeSteps
pub mod RealSteps
pub mod Walks
