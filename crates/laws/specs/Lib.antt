-- General definitions that the kit lacks.
pub mod Largest
pub mod Below
pub mod ByIndex
pub mod Put
pub mod Refusal
pub mod Inner
