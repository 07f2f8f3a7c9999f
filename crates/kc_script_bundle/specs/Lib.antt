pub mod Script
pub mod Live
pub mod On
pub mod Meaning
pub mod State
