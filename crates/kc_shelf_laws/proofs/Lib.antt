pub mod Acts
pub mod Footprints
pub mod Lives
pub mod Names
pub mod Once
pub mod Opening
pub mod Stores
pub mod Turning
pub use Rattle.kc_shelf.proofs as kc_shelf
