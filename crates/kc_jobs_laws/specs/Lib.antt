pub mod Acts
pub mod Taken
