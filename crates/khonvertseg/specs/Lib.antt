-- The C face: each answer as the header lays it out, and what each call promises.
pub mod Flat
pub mod Calls
