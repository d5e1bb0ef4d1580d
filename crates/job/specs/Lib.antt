-- The job as a value, in the words of the rules.
pub mod Job
pub mod Range
pub mod Change
pub mod Block
pub mod Inner
