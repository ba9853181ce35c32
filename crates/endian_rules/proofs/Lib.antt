pub mod Numbers
pub mod Places
pub mod Signs
pub mod Worked
pub mod Orders
