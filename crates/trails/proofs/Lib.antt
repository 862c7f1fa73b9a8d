pub mod Theory
pub mod Backward
pub mod Answer
