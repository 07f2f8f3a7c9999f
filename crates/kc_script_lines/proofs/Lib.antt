pub mod NameText
pub mod Given
pub mod Faults
mod FirstLine
mod Extended
