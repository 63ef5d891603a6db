pub mod Held
pub mod Due
pub mod Fits
pub mod Counting
pub mod Ended
pub mod CarriesValue
