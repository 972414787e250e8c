pub mod Answer
pub mod Refusals
pub mod Told
pub mod Admitted
pub mod Numbers
