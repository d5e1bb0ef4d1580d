-- The worth of a cell is the largest candidate, and the filled table is the only one that the rule allows.
pub mod Worth
pub mod Steps
pub mod Floors
pub mod Filled
pub mod Growing
pub mod Rounds
