pub mod Offers
pub mod TryCollects
