pub mod Closing
pub mod Homes
pub mod Lending
pub mod Loans
