pub mod Entries
pub mod Blocks
pub mod Decimal
pub mod Page
pub mod Appending
pub mod Worked
