-- The call plan: what it answers and what it writes, for all input.
pub mod File
pub mod Refusals
pub mod Planning
pub mod Best
pub mod Enough
pub mod Inner
