pub mod Exactly
pub mod Walks
