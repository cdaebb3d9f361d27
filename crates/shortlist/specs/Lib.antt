pub mod Shortlist
pub mod Checks
pub mod Private
pub mod Claims
