pub mod Grown
pub mod Lowered
pub mod Finished
