pub mod Record
pub mod Transmit
pub mod Confirmation
pub mod Retries
pub mod FirstBadEvent
