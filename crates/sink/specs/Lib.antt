pub mod Refusals
pub mod Puts
pub mod Rows
