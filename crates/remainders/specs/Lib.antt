pub mod Sums
pub mod Steps
