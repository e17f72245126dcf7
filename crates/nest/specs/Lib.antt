pub mod ThenRule
pub mod ThenAgrees
pub mod ThenPipeline
pub mod FlattenRule
pub mod FlattenAgrees
pub mod Nested
pub mod FlattenPipeline
pub mod FlatMapPipeline
