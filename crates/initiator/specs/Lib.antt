pub mod Read
pub mod Fields
pub mod WriteRecord
pub mod WriteCount
pub mod WriteSend
pub mod WriteTake
pub mod Sense
