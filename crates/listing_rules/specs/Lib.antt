pub mod Listing
pub mod Quoted
pub mod Decimal
pub mod Page
pub mod Steps
pub mod Worked
