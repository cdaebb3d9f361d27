pub mod Leaves
pub mod Answered
pub mod Asked
pub mod Compared
