pub mod Thening
pub mod Nesting
pub mod Behaving
