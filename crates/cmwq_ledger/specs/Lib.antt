pub mod Active
pub mod Books
pub mod Bounds
pub mod Contents
pub mod Heads
pub mod Ledger
pub mod Totals
