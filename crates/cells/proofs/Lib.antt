-- The laws of the definitions in specs/, and the proofs of the functions.
pub mod Places
pub mod Redrawn
pub mod Emptied
pub mod Sweep
pub mod Box
