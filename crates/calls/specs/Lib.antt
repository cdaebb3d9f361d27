pub mod Calls
pub mod Shares
pub mod Private
