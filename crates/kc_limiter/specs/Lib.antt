pub mod Asking
pub mod Limits
