pub mod Refusals
pub mod Inputs
pub mod Lines
pub mod Reports
pub mod Texts
pub mod Prints
