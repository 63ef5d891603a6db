pub mod CAnswer
pub mod Frames
pub mod Sense
pub mod Version
pub mod ShortSend
pub mod ShortWrite
pub mod ShortReceive
