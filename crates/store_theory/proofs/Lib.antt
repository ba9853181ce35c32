pub mod Orders
pub mod Plans
pub mod Series
pub mod Runs
pub mod Claims
pub mod Calls
pub mod Formats
pub mod Worked
