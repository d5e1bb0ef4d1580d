-- What the program prints for a job block.
pub mod Sizes
pub mod Entry
pub mod Program
pub mod Promise
pub mod Best
pub mod Inner
