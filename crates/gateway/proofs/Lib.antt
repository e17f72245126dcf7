mod Lining
pub mod Printing
mod Reporting
