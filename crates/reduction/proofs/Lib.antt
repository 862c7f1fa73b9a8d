pub mod Remainders
pub mod Common
pub mod Scaled
pub mod Rows
pub mod OneAnswer
