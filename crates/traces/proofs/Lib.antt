pub mod Turns
pub mod Order
pub mod Lists
pub mod Exactly
pub mod Sequences
