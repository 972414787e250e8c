pub mod Line
pub mod Mark
