-- Laws that the functions' proofs cite, and what is made from the numbers of a text that has been read.
pub mod Held
pub mod Rows
pub mod InOrder
pub mod UsesInOrder
pub mod FromText
pub mod KindNumbers
