pub mod ToldByAny
pub mod LeastSize
pub mod SomeSize
