pub mod Asked
pub mod Bank
pub mod Committed
pub mod Content
pub mod Opened
pub mod Opening
pub mod Places
