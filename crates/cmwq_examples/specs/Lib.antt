pub mod Bodies
pub mod Conditions
pub mod Corners
pub mod Declare
pub mod FinerRules
pub mod Premises
pub mod Rows
