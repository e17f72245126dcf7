pub mod Polling
pub mod Once
