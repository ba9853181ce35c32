pub mod Lines
pub mod Grids
