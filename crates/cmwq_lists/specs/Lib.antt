pub mod Cells
pub mod Link
pub mod ListContents
pub mod Ranks
