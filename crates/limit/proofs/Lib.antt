pub mod Fusing
pub mod Taking
