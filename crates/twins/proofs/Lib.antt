pub mod Earlier
pub mod OneAnswer
