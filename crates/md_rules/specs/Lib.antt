pub mod Rules
pub mod Opening
pub mod Accepts
pub mod Fields
pub mod Worked
pub mod Bounds
pub mod Places
