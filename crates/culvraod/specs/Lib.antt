pub mod Boundary
pub mod Lowest
pub mod Numeric
pub mod Ruler
pub mod Search
pub mod Steps
pub mod Segments
