pub mod Dump
pub mod Laws
pub mod Order
