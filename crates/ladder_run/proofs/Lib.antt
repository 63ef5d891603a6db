pub mod InTurn
pub mod Handed
pub mod Leaves
pub mod SmallFrame
pub mod SmallReceipt
pub mod Small
