pub mod Rules
pub mod Opening
pub mod Accepts
pub mod Points
pub mod Worked
pub mod Bounds
pub mod Places
