-- What the functions' proofs cite.
pub mod Every
pub mod Found
pub mod Lists
pub mod Reserved
