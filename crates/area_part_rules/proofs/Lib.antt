pub mod Blocks
pub mod Regions
pub mod Lines
