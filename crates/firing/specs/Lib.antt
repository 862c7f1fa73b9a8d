pub mod Firing
pub mod Table
