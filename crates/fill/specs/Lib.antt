-- The filled table in the words of the rules.
pub mod Filled
pub mod Inner
