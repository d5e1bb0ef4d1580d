-- The laws of the definitions in specs/, a file for each.
pub mod Order
pub mod Largest
pub mod Says
pub mod Below
pub mod ByIndex
pub mod Put
pub mod Wrote
pub mod Depth
pub mod Placed
pub mod Sums
pub mod Tests
pub mod First
pub mod Choice
pub mod Refusal
