pub mod Zipping
pub mod Chaining
