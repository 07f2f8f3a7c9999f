pub mod Picks
pub mod Past
pub mod Opened
pub mod Written
