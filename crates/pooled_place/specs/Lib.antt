pub mod PooledPlace
pub mod Words
