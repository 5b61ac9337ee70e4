-- What a search from the front answers.
pub mod Found
