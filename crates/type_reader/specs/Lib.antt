-- How a tree is kept as numbers, and what the readers answer.
pub mod Leaves
pub mod Answers
