pub mod FilterRule
pub mod FilterPipeline
pub mod FilterMapRule
pub mod FilterMapPipeline
pub mod SkipWhileRule
pub mod SkipWhileAgrees
pub mod SkipWhilePipeline
