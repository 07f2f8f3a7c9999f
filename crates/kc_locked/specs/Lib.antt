pub mod History
pub mod Held
pub mod Origin
pub mod Locked
pub mod Passes
