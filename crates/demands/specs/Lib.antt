-- The three demands (rules 10.1 to 10.7) and the sheets, over the calls under the header's names.
pub mod Refuses
pub mod History
pub mod Script
