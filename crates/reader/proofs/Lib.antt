pub mod Turns
pub mod Whole
pub mod Taken
pub mod Known
pub mod Views
