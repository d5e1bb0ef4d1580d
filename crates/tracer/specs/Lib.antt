-- The tree for a rectangle by the tree rules, and its nodes.
pub mod Rules
pub mod Inner
