pub mod Storm
pub mod State
pub mod Summary
pub mod Worked
