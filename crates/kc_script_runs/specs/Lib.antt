pub mod Labels
pub mod Threads
pub mod Ask
pub mod Looks
pub mod Run
pub mod Worked
