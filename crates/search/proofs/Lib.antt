pub mod Places
pub mod Tied
pub mod Rows
pub mod Compact
