pub mod Pool
pub mod Band
pub mod Limits
pub mod Numbers
pub mod Fraction
pub mod Regression
pub mod Private
pub mod Claims
