pub mod Commenting
pub mod Played
pub mod Plays
