pub mod Fields
pub mod Record
pub mod Transmit
pub mod Count
pub mod Confirmation
pub mod CarriesValue
