pub mod Parts
pub mod TermLaw
pub mod Closed
pub mod Ones
pub mod Rows
