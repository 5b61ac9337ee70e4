pub mod Own
pub mod OneTold
