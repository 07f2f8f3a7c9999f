pub mod Placing
pub mod Names
pub mod Declared
pub mod Said
pub mod Tested
pub mod Texts
pub mod Rows
pub mod ObjectRows
