-- Where the names of a text lead, told by the areas.
pub mod Following
