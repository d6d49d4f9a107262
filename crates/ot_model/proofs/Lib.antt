pub mod Cells
pub mod KindRows
pub mod Lengths
pub mod Examples
