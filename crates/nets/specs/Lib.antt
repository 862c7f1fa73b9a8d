pub mod Nets
pub mod HalfSpaces
pub mod Window
pub mod Verdicts
pub mod Reduced
pub mod Cases
