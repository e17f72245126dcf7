pub mod Building
pub mod Chained
