-- The laws of the tracing, a file for each.
pub mod Least
pub mod Traced
pub mod Strikes
pub mod Valid
pub mod ByRules
pub mod Best
pub mod Same
pub mod Wrote
pub mod Parts
pub mod Tests
pub mod Found
pub mod Steps
pub mod Walked
