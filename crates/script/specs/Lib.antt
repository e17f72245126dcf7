pub mod Refusals
pub mod Commands
pub mod OneWay
pub mod Places
pub mod Beginnings
pub mod Sources
pub mod Checks
