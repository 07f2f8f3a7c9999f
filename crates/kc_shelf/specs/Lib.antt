pub mod Freeing
pub mod Meaning
pub mod Pooling
pub mod Handing
pub mod Reading
pub use Rattle.kc_store.specs as kc_store
