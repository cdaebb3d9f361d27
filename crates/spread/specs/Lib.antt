pub mod Near
pub mod Spread
pub mod Brier
pub mod Claims
