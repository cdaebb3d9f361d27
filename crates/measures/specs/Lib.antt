pub mod Pairs
pub mod Measures
pub mod Brier
pub mod Published
pub mod Private
pub mod Claims
