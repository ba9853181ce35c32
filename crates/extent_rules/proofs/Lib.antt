pub mod Free
pub mod Slots
pub mod Runs
pub mod Fit
pub mod Longest
