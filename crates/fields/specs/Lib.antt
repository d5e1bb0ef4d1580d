-- The numbers of a plan file as its bytes, and the running sum over them.
pub mod Format
pub mod Number
pub mod Sum
pub mod Inner
