pub mod Desk
pub mod Calls
