-- The three demands, the sheets, and the libraries that break a promise.
pub mod Outcome
pub mod Changes
pub mod Questions
pub mod Refuses
pub mod Demands
pub mod Plans
pub mod Agree
pub mod Sheets
pub mod Impostors
