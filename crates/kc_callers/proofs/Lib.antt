pub mod Beside
pub mod Homes
pub mod Places
