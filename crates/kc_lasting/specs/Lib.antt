pub mod Cuts
pub mod Eras
pub mod Ends
pub mod Sides
pub mod Settled
pub mod Kept
pub mod Told
pub mod Opening
