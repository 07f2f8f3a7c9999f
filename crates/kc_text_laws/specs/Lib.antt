pub mod Holding
pub mod Owning
pub mod Handed
