pub mod Written
pub mod Worked
pub mod Mirror
pub mod MovedFilm
