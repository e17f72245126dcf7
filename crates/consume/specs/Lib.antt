pub mod Meanings
pub mod Puts
pub mod Draws
pub mod Polls
pub mod Runs
