-- The board: all that the engine knows of a job.
pub mod Inner
