-- The laws of the job: its pieces, its range, its changes and its block.
pub mod Pieces
pub mod Range
pub mod Changed
pub mod Blocks
