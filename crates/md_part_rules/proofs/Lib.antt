pub mod Names
pub mod Keys
pub mod Fills
pub mod Records
