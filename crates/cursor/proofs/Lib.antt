-- Laws about what the cursor takes.
pub mod Taking
pub mod Symbols
