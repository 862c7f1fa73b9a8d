pub mod State
pub mod Areas
