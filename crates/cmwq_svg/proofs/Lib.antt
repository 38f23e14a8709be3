pub mod BarLemmas
