-- The laws of the reader, and the theorem that it accepts exactly the encodings of valid trees.
pub mod Rules
pub mod Entries
pub mod Own
pub mod Encoding
pub mod Exactly
pub mod Room
pub mod Answers
