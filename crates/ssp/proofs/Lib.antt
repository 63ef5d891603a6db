pub mod Cases
pub mod FullFrame
pub mod FrameCases
pub mod WriteCases
pub mod ReceiveCases
pub mod TargetCases
pub mod SenseAnswered
