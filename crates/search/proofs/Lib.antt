-- Laws of the search's queue and of the loops over the areas.
pub mod Marks
pub mod Queues
pub mod Runs
pub mod Loops
