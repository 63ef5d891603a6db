pub mod Record
pub mod DataFrame
pub mod Marks
