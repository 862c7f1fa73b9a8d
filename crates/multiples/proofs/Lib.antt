pub mod Scaled
pub mod Entries
pub mod Rows
