pub mod Months
pub mod Dates
pub mod Times
pub mod Worked
