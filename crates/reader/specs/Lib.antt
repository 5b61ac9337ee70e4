-- What reading a definition, and all of them, answers.
pub mod Defining
