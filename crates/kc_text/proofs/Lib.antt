pub mod TextLaw
pub mod Room
pub mod Forming
pub mod Replies
pub mod Committed
pub use Rattle.kc_store.proofs as kc_store
