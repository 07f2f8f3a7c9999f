pub mod Faults
pub mod Loops
pub mod Numbers
