-- Laws of writing text.
pub mod Printed
pub mod Decimal
