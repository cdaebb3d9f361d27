pub mod Best
pub mod Cutoff
pub mod Verdict
pub mod Weighted
pub mod Sweep
pub mod Claims
