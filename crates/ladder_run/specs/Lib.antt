pub mod Ends
pub mod Fates
pub mod Row
pub mod Round
pub mod Line
pub mod Setup
pub mod Whole
pub mod Small
