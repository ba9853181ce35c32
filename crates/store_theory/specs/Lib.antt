pub mod Plans
pub mod Series
pub mod Stores
pub mod Claims
pub mod Formats
pub mod Calls
