pub mod Kept
pub mod Orders
pub mod Others
pub mod Back
pub mod Calls
