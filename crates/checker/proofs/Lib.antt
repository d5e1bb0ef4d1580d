-- The laws of the stages, and the theorems on what check accepts and refuses.
pub mod Stages
pub mod Parts
pub mod Given
pub mod Accepts
pub mod Promise
