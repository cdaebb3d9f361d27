pub mod Images
pub mod Parts
pub mod Asked
pub mod Changed
pub mod Signed
