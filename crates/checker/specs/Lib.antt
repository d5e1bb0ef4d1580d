-- What check promises: the plan file's fields, what an accepted file is, and which answer is given, exactly when.
pub mod Fields
pub mod Checked
pub mod PlanFile
pub mod Given
pub mod Inner
