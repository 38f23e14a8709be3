pub mod Ending
pub mod Examples
pub mod Interleaving
pub mod Playing
