-- Laws of reading definitions, and a whole text.
pub mod Naming
pub mod Defined
pub mod Texts
pub mod Looping
