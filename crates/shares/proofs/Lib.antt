pub mod Shares
pub mod Weights
pub mod Totals
pub mod Settled
pub mod Judged
