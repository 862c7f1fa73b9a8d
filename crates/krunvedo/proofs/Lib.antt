pub mod Numbered
pub mod OneAnswer
pub mod Recorded
