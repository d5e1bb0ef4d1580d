-- The calls open, add, correct, remove and ask: what each answers and what each leaves, for all input.
pub mod Refusals
pub mod Changing
pub mod Asking
pub mod Inner
