pub mod Attempts
pub mod Futures
pub use Rattle.kc_callers.specs as kc_callers
