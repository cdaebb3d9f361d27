pub mod History
pub mod Promise
pub mod InC
pub mod ByDesk
pub mod EntryPoints
pub mod Demands
pub mod Worked
pub mod Orders
