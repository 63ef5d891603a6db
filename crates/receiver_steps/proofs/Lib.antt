pub mod Held
pub mod Judged
pub mod Buffer
pub mod Ended
