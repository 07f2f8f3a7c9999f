pub mod Seats
pub mod Trying
