pub mod Cases
pub mod Reading
pub mod Nones
pub mod Behaving
pub mod Passing
