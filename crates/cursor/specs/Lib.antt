-- What the cursor takes.
pub mod Takes
