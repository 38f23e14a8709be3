pub mod Examples
pub mod Hidden
pub mod Laws
pub mod Positions
pub mod RunTold
