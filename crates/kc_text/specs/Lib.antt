pub mod Meaning
pub mod Forming
pub mod Replies
pub mod Pool
pub mod Committing
pub mod Reading
pub use Rattle.kc_store.specs as kc_store
