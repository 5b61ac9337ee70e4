-- Twins that compute, of the two things that are declared: a reading and a verdict. Nobody need believe them.
pub mod Reading
pub mod Verdict
pub mod Line
