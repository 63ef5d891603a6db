pub mod Buffer
pub mod Views
pub mod Kept
pub mod Marks
