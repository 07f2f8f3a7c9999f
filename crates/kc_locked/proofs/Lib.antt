pub mod Sound
pub mod Views
pub mod Steps
pub mod Enters
pub mod Ends
