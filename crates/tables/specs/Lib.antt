pub mod Smallest
pub mod Told
