pub mod Asked
pub mod Order
pub mod Tells
