pub mod Keeping
pub mod PutBack
