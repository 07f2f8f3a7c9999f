pub mod Words
pub mod Tests
pub mod Gives
pub mod Fault
