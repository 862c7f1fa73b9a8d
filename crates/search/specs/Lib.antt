pub mod Searched
pub mod Table
