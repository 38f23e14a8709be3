pub mod Bodies
pub mod Conclusions
pub mod Happening
pub mod Settling
pub mod Telling
