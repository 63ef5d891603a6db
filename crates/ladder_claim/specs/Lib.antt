pub mod Rows
pub mod Rounds
pub mod Claim
