mod RequestLemmas
mod StatusLemmas
