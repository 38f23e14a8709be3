pub mod Columns
pub mod Conclusions
pub mod Counting
pub mod Declared
pub mod Marks
pub mod Runs
