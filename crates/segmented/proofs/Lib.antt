-- What belongs to no one function: `Mirror` has what a later crate may use. Assumes nothing.
pub mod Margin
pub mod Halves
pub mod Rules
pub mod StepRules
pub mod WholeRules
pub mod Mirror
