pub mod Passed
pub mod Screens
pub mod Alike
pub mod LetIn
