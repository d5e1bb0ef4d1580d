-- The theorems, a file for each idea. docs/PROMISES.md says which rule each one carries.
pub mod Dissection
pub mod Points
pub mod Box
pub mod Rule
pub mod Listed
pub mod Fitting
pub mod Bound
pub mod Tree
pub mod BestValue
