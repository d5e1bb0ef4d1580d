-- Text in a row of bytes, and numbers in decimal.
pub mod Decimal
pub mod Inner
