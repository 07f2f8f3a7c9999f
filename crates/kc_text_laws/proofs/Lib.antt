pub mod Handed
pub mod Holding
pub mod Owning
pub mod Turning
pub mod Graves
pub mod Stores
