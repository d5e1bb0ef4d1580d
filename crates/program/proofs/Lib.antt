-- Laws of the program.
pub mod Entered
pub mod Lines
pub mod Texts
pub mod Digits
pub mod Fits
pub mod Promise
pub mod Begun
pub mod Best
pub mod Input
