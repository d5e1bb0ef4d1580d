-- Laws of the call plan.
pub mod Tracing
pub mod Writing
pub mod Exactly
pub mod Enough
pub mod Answers
pub mod Filing
pub mod Promise
pub mod Best
pub mod Plans
pub mod Forged
