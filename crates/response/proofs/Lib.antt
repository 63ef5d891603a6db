pub mod Held
pub mod Due
pub mod Ended
pub mod Kept
pub mod CarriesValue
pub mod Resends
