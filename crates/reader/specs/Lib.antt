pub mod Answers
pub mod Known
pub mod Numbered
pub mod Targets
