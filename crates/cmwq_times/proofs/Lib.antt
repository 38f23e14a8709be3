pub mod ClerkLemmas
