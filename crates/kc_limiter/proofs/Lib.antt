pub mod Acts
pub mod Giving
pub mod Windows
