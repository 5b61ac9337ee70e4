-- Laws that the functions' proofs cite.
pub mod SameKind
pub mod Firsts
pub mod Labels
pub mod Comparing
