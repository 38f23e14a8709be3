-- What a caller cites: an instruction keeps the number of works that may run; and what fills, places or takes off changes no run.
pub use Rattle.cmwq_events.proofs.RunningLemmas.{fill-runs, fill_freezable-runs, fill_pools-runs, fired-runs, place_after-runs, running-length, taken_off-runs}
