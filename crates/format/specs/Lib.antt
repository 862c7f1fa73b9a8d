pub mod Read
pub mod Contents
pub mod Reading
pub mod Formed
pub mod Encoding
pub mod Answers
pub mod Checked
