pub mod Stepping
pub mod Expanding
pub mod Beginning
pub mod Mapped
pub mod States
pub mod Verdicts
pub mod Longer
