-- Laws of the face.
pub mod Unique
