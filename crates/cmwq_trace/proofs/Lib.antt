pub mod JsonLemmas
pub mod ObjectLemmas
pub mod WriteLemmas
