pub mod Lowest
pub mod Fires
