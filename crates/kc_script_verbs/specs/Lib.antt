pub mod Words
pub mod Objects
pub mod Saying
pub mod Declaring
pub mod Fields
pub mod Canonical
