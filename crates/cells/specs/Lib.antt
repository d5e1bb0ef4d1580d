-- The row of cells of a sheet. Where a cell lies in the row is known here alone; everyone above says (x, y).
pub mod Cells
pub mod Emptied
pub mod Box
pub mod Inner
