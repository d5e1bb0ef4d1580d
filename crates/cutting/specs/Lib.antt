-- Cutting in the words of the rules. Nothing is proved here.
pub mod Limits
pub mod Piece
pub mod Dissection
pub mod Points
pub mod Candidate
pub mod Change
pub mod Tree
pub mod Inner
