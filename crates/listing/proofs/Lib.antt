pub mod Room
pub mod Alike
