-- How a tree is kept as numbers.
pub mod Flat
