pub mod Enough
