pub mod Choices
pub mod Lists
pub mod Lowest
pub mod Segments
