pub mod Turned
pub mod Asked
