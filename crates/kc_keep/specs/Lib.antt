pub mod Only
pub mod Keeping
pub mod Steps
pub mod Unworn
