pub mod Drawings
pub mod Examples
pub mod Folded
pub mod Marks
pub mod Pictures
pub mod Signs
