pub mod Taking
pub mod State
