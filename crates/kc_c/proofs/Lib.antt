pub mod Adding
pub mod Boxes
pub mod Closed
pub mod Copying
pub mod Hangs
mod Lays
pub mod Loud
pub mod Opened
pub mod Steps
pub mod Words
