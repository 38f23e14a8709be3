pub mod ExactStored
pub mod Packed
pub mod Stored
