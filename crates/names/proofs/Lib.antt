-- Laws about where names lead.
pub mod Loops
pub mod Spelling
pub mod Uses
pub mod Definitions
pub mod Distinct
pub mod Leading
pub mod Named
