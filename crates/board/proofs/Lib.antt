-- What the marks mean, what stands where on a board, and that it holds the job.
pub mod Reaches
pub mod Steps
pub mod Marks
pub mod Passing
pub mod Marking
pub mod Laid
pub mod Holds
