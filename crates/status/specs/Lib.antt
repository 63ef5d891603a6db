pub mod Number
pub mod Pick
pub mod Entry
pub mod Report
pub mod Answer
pub mod Stepped
pub mod Result
