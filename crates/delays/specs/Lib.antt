pub mod Callbacks
pub mod PipelineRule
pub mod Pipeline
