mod EntryLemmas
mod FullLemmas
mod IssueLemmas
pub mod ReceiptLemmas
