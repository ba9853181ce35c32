pub mod Layouts
pub mod Found
