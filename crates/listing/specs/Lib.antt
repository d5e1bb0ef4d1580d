-- What the program prints: its lines, and the listing of a tree.
pub mod Line
pub mod Listing
pub mod Inner
