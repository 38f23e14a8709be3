pub mod Conclusions
pub mod Growing
pub mod Nobody
pub mod Places
