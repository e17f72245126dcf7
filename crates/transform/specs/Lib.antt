pub mod MapRule
pub mod MapAgrees
pub mod MapPipeline
pub mod MapWhileRule
pub mod MapWhilePipeline
pub mod ScanPipeline
pub mod TakeWhileRule
pub mod TakeWhilePipeline
