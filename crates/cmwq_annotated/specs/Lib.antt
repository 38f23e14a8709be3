pub mod Acted
pub mod Notes
pub mod ReplyNumbers
