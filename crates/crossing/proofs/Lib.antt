pub mod Rows
pub mod Crossed
pub mod Beside
