pub mod Asked
pub mod Tells
