pub mod Choose
pub mod OpenedCall
pub mod Leaves
pub mod Wildcard
