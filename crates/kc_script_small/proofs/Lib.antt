pub mod Programs
pub mod Tables
pub mod Caches
pub mod Meanings
pub mod Operations
pub mod Openings
pub mod Runs
