pub mod Number
pub mod Soundness
pub mod Asked
pub mod Changed
