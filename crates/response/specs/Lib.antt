pub mod Fields
pub mod Record
pub mod Transmit
pub mod Confirmation
pub mod Resends
pub mod CarriesValue
