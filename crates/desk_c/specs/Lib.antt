pub mod Image
pub mod Numbers
pub mod Private
pub mod Version
pub mod Claims
