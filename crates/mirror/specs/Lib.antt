pub mod Mirror
pub mod Worked
pub mod MovedFilm
