pub mod Parts
pub mod Linear
pub mod Twos
pub mod Divide
