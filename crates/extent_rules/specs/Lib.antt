pub mod Stretches
pub mod Rooms
pub mod Steps
