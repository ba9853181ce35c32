pub mod Gregorian
pub mod Dates
pub mod Times
