pub mod Adding
pub mod Room
pub mod Sizes
pub mod Asking
pub mod Splitting
pub mod Printed
