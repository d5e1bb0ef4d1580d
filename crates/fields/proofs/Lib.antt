-- The laws of numbers, bytes and the running sum.
pub mod Number
pub mod Sum
