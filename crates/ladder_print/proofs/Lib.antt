pub mod Behind
pub mod Filled
pub mod Climbing
pub mod Tried
pub mod Files
