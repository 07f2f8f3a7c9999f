pub mod Adding
pub mod Left
pub mod Ordered
pub mod Drawn
pub mod Lying
pub mod Making
pub mod Counting
pub mod Spelled
