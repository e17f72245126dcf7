pub mod EnumerateRule
pub mod EnumerateAgrees
pub mod EnumeratePipeline
pub mod ZipRule
pub mod ZipAgrees
pub mod ZipPipeline
pub mod ChainRule
pub mod ChainPipeline
