pub mod Range
pub mod Held
