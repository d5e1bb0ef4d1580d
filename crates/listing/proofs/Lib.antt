-- Laws of the listing.
pub mod Parts
pub mod Texts
pub mod Lengths
