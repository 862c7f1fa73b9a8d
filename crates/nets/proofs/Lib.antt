pub mod Vectors
pub mod Theorem1
pub mod Theorem3
pub mod Theorem7
pub mod Consequence
pub mod OneVerdict
pub mod ReducedForm
pub mod MarkedNets
