pub mod Sums
pub mod Totals
pub mod Opened
pub mod Ones
pub mod Seen
