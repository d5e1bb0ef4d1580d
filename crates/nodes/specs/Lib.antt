-- What the nodes of a plan file are, and what reading them means.
pub mod Encoding
pub mod Reads
pub mod Inner
