mod HistoryLemmas
mod LineLemmas
mod PlayLemmas
